use Rattle.std.proofs.Common.{◌≡◌}
use Rattle.race_tests.proofs.bag_once.Trying.count_on.Given as goal

abbrev pub invariant-loop : goal.invariant-loop
invariant-loop g l = l.pass.table ≡ l.self.bag
