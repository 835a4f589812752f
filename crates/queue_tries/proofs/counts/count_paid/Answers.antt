use Rattle.std.proofs.Common.{ap}
use Rattle.seg_rule.specs.Passes.{QueueView}
use Rattle.queue_tries.proofs.Counting.{counts_lost}
use Rattle.queue_tries.proofs.counts.count_paid.Goals as goal

pub returns-then-not-close-clause-told : goal.returns-then-not-close-clause-told
returns-then-not-close-clause-told c =
    counts_lost c.args.pass.now.view c.current_place-place.new.pass.view c.current_tail-tail.new.pass.view c.close.new.pass.view c.turn_leave.new.pass.view c.current_place-place.result c.current_tail-tail.result
    c.current_place-place.ensures.read c.current_tail-tail.ensures.read c.if-not-close.ensures.told (ap (λ (z : QueueView). z.view) c.turn_leave.ensures)
