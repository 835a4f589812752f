use Rattle.blocking_collection.proofs.Trying.{Taking}
use Rattle.blocking_collection.proofs.any_take.try_take_any.Given as goal

abbrev pub invariant-loop-i : goal.invariant-loop-i
invariant-loop-i g l = Taking g.T.Item.priority_of l.fn.passes l.i l.all_ended l.passes
