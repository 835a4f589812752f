use Rattle.std.proofs.Common.{◌≡◌}
use Rattle.bench.proofs.bag.take_some.Given as goal

abbrev pub invariant-loop : goal.invariant-loop
invariant-loop g l = l.pass.table ≡ l.bag
