use Rattle.std.proofs.Common.{[]}
use Rattle.blocking_collection.specs.Several.{AllDid, round, still_open}
use Rattle.blocking_collection.proofs.any_add.first_closed.Given as goal

abbrev pub invariant-loop-i : goal.invariant-loop-i
invariant-loop-i g l = AllDid g.T.Item.priority_of l.fn.passes (round l.i still_open []) l.passes
