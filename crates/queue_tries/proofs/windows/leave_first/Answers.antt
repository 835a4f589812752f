use Rattle.std.proofs.Common.{ap}
use Rattle.seg_rule.specs.Passes.{QueueView}
use Rattle.queue_tries.proofs.Windowing.{may_end, leaves_first}
use Rattle.queue_tries.proofs.windows.leave_first.Goals as goal

pub observe_end-requires-clause-may : goal.observe_end-requires-clause-may
observe_end-requires-clause-may c = may_end c.args.first c.args.last c.look-word.result c.place_of-next.result c.args.pass.now.view c.look-word.new.pass.view c.requires.holds c.requires.other c.look-word.ensures.read c.place_of-next.ensures.same

pub returns-clause-left : goal.returns-clause-left
returns-clause-left c =
    leaves_first c.args.first c.args.last c.look-word.result c.place_of-next.result c.args.pass.now.view c.look-word.new.pass.view c.requires.holds c.requires.other c.look-word.ensures.read c.place_of-next.ensures.same c.observe_end.new.pass.view (ap (λ (z : QueueView). z.view) c.observe_end.ensures)
