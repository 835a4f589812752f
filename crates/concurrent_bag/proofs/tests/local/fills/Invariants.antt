use Rattle.std.proofs.Common.{◌≡◌}
use Rattle.concurrent_bag.proofs.tests.local.fills.Given as goal

abbrev pub invariant-loop-item : goal.invariant-loop-item
invariant-loop-item l = l.pass.table ≡ l.bag
