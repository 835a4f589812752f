use Rattle.std.proofs.Common.{rules, refl, [], ◌∷◌, ◌∙◌}
use Rattle.seg_rule.specs.declared.view.Obstacle.TheVariants.{Turned}
use Rattle.queue_tries.specs.Tries.{HasNoCallLeft}
use Rattle.queue_tries.specs.declared.answers.QueueAgain.TheVariants.{Turn}
use Rattle.queue_tries.proofs.Walks.{walks_turned, walks_missed, free_ends}
use Rattle.queue_tries.proofs.Snapping.{windows_end}
use Rattle.queue_tries.proofs.snaps.window_once.Goals as goal

pub returns-in-Ok-clause-told : goal.returns-in-Ok-clause-told
returns-in-Ok-clause-told c =
    let below : ¬ HasNoCallLeft c.args.pass.now = search rules in
    windows_end c.args.pass.now c.window_paid.new.pass c.turn_take.new.pass.view c.window_paid.result (walks_turned c.args.pass.now.view c.begin.new.pass.view c.turn_take.new.pass.view [] c.begin.ensures.walks c.in-Ok.ensures.won)
    (c.window_paid.ensures.same ∙ (c.turn_take.ensures.same ∙ c.begin.ensures.same)) c.caller-caller.ensures.own below c.window_paid.ensures.told

pub returns-in-Err-clause-told : goal.returns-in-Err-clause-told
returns-in-Err-clause-told c =
    let below : ¬ HasNoCallLeft c.args.pass.now = search rules in
    let missed = c.in-Err.ensures.lost.1 in
    let t = walks_missed c.args.pass.now.view c.begin.new.pass.view c.turn_take.new.pass.view [] c.in-Err.field-0 c.begin.ensures.walks missed in (
      record { hand = t.0.walks.hand; stage = t.0.away; window = t.0.walks.window; joint = t.0.walks.joint },
      (Turned missed.caller ∷ [], free_ends c.args.pass.now c.turn_take.new.pass Turn (Turned missed.caller ∷ []) refl t.0 (c.turn_take.ensures.same ∙ c.begin.ensures.same) c.caller-caller.ensures.own below, (t.1, t.2)),
    )
