use Rattle.std.proofs.Common.{ap}
use Rattle.seg_rule.specs.Passes.{QueueView}
use Rattle.queue_tries.proofs.Snapping.{windows_lost}
use Rattle.queue_tries.proofs.snaps.window_paid.Goals as goal

pub returns-then-not-close-clause-told : goal.returns-then-not-close-clause-told
returns-then-not-close-clause-told c =
    windows_lost c.args.pass.now.view c.current_place-current.new.pass.view c.current_tail-tail.new.pass.view c.close.new.pass.view c.turn_leave.new.pass.view c.current_place-current.result c.current_tail-tail.result
    c.requires.paid c.current_place-current.ensures.read c.current_tail-tail.ensures.read c.if-not-close.ensures.told (ap (λ (z : QueueView). z.view) c.turn_leave.ensures)
