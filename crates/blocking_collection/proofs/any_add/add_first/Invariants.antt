use Rattle.std.proofs.Common.{◌≡◌, []}
use Rattle.blocking_collection.specs.Several.{AllDid, round, full}
use Rattle.blocking_collection.proofs.any_add.add_first.Given as goal

abbrev pub invariant-loop-i : goal.invariant-loop-i
invariant-loop-i g l = (l.given ≡ l.fn.item) × AllDid g.T.Item.priority_of l.fn.passes (round l.i (full (g.T.Item.mark l.fn.item)) []) l.passes
