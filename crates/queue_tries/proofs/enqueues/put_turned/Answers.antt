use Rattle.std.proofs.Common.{ap, ◌∙◌}
use Rattle.seg_rule.specs.declared.view.View.{View}
use Rattle.seg_rule.specs.Passes.{QueueView}
use Rattle.queue_tries.proofs.Enqueuing.{lost_turned}
use Rattle.queue_tries.proofs.enqueues.put_turned.Goals as goal

pub fill-requires-clause-hand : goal.fill-requires-clause-hand
fill-requires-clause-hand c = let won = c.in-Ok.ensures.won in (won.0, c.args.value, ap (λ (p : QueueView). p.view.hand) c.turn_leave.ensures ∙ ap (λ (z : View). z.hand) won.1.left)

pub returns-in-Err-clause-told : goal.returns-in-Err-clause-told
returns-in-Err-clause-told c = let lost = c.in-Err.ensures.lost in
    lost_turned c.args.place c.args.tail c.in-Err.field-0 c.args.pass.now.view c.tail_reserve.new.pass.view c.turn_leave-in-Err.new.pass.view c.requires.plain c.requires.may.1.idle lost.0 lost.1 (ap (λ (p : QueueView). p.view) c.turn_leave-in-Err.ensures)
