use Rattle.std.proofs.Common.{refl, sym, ap, ◌∙◌, subst, rules, arith, ◌≢◌, ◌+◌, ◌<◌}
use Rattle.bag_rule.specs.Plays.{Sits}
use Rattle.bag_tries.specs.Takes.{Went}
use Rattle.bag_tries.proofs.Searching.{went_none, went_bare, went_held}
use Rattle.bag_tries.proofs.searches.look_round.Goals as goal
use Rattle.bag_tries.proofs.searches.look_round.Goals.{in-Bare, in-Held}

pub loop-step-init : goal.loop-step-init
loop-step-init g c = (went_none c.args.caller c.args.seat.now.me.0 c.callers-callers.result c.requires.own.1, refl, (refl, refl))

pub loop-step-preserved : goal.loop-step-preserved
loop-step-preserved g c =
    let v = c.args.seat.now.me.0 in let w = c.loop-step.seat.me.0 in let i = c.loop-step.invariant in
    let known = Went c.args.caller v c.look_into.new.seat.me.0 c.callers-callers.result (c.loop-step.step + 1) in
    let low : c.other_list-from.result < 64 = search (rules, arith) in
    let apart : c.other_list-from.result ≢ c.args.caller = search (rules, arith) in
    elim c.match-look_into.branch [
      | in-Bare b ↦ (
        subst known (sym b.skipped-is) (went_bare c.args.caller v c.callers-callers.result c.loop-step.step c.loop-step.skipped w i.0 c.other_list-from.result c.other_list-from.ensures.is low c.look_into.new.seat.me.0 (ap (λ (z : Sits). z.0) b.in-Bare.ensures.told)),
        ap (λ (z : Sits). z.1) b.in-Bare.ensures.told ∙ i.1,
        search rules,
      )
      | in-Held b ↦ let t = b.in-Held.ensures.told in (
        subst known (sym b.skipped-is) (went_held c.args.caller v c.callers-callers.result c.loop-step.step c.loop-step.skipped w i.0 c.other_list-from.result c.other_list-from.ensures.is (search (rules, arith)) apart t.0 t.1 c.look_into.new.seat.me.0 (ap (λ (z : Sits). z.0) t.2)),
        ap (λ (z : Sits). z.1) t.2 ∙ i.1,
        search rules,
      )
    ]
