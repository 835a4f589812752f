use Rattle.std.proofs.Common.{refl, ap, ◌∙◌, []}
use Rattle.std.specs.Prelude.{Some}
use Rattle.seg_rule.specs.declared.view.View.{View}
use Rattle.seg_rule.specs.declared.view.Notes.{Notes}
use Rattle.seg_rule.specs.Passes.{QueueView}
use Rattle.seg_rule.specs.Steps.{closed_at}
use Rattle.queue_tries.specs.Growth.{ended_tail}
use Rattle.queue_tries.proofs.Walks.{goes_quiet}
use Rattle.queue_tries.proofs.Enqueuing.{numbered, lost_turned, loses_after}
use Rattle.queue_tries.proofs.enqueues.close_tail.Goals as goal

pub tail_close-requires-clause-may : goal.tail_close-requires-clause-may
tail_close-requires-clause-may c =
    let is = numbered c.args.pass.now.view c.load-number.new.pass.view c.args.place c.args.tail c.args.length c.load-number.result c.requires.notes c.load-number.ensures.read in
    (ap (λ (z : View). z.stage) is ∙ c.requires.plain, (ended_tail c.args.place c.args.tail c.args.length c.load-number.result, ap (λ (z : View). z.notes.tail) is, refl, refl))

pub returns-in-Ok-clause-told : goal.returns-in-Ok-clause-told
returns-in-Ok-clause-told c =
    let is = numbered c.args.pass.now.view c.load-number.new.pass.view c.args.place c.args.tail c.args.length c.load-number.result c.requires.notes c.load-number.ensures.read in
    c.in-Ok.ensures.won ∙ ap (λ (z : View). closed_at z c.args.place c.args.tail) is

pub returns-in-Err-clause-told : goal.returns-in-Err-clause-told
returns-in-Err-clause-told c =
    let v = c.args.pass.now.view in let w = c.load-number.new.pass.view in let u = c.turn_leave.new.pass.view in
    let is = numbered v w c.args.place c.args.tail c.args.length c.load-number.result c.requires.notes c.load-number.ensures.read in
    let lost = c.in-Err.ensures.lost in
    let notes : Notes = record v.notes { tail = Some (ended_tail c.args.place c.args.tail c.args.length c.load-number.result) } in
    loses_after v w u [] (goes_quiet v w notes v.stage is)
    (lost_turned c.args.place c.args.tail c.in-Err.field-0 w c.tail_close.new.pass.view u (ap (λ (z : View). z.stage) is ∙ c.requires.plain) (ap (λ (z : View). z.hand) is ∙ c.requires.hand) lost.0 lost.1 (ap (λ (p : QueueView). p.view) c.turn_leave.ensures))
