use Rattle.std.proofs.Common.{◌≡◌}
use Rattle.race_tests.proofs.bag_once.Trying.meet_entry.Given as goal

abbrev pub invariant-loop : goal.invariant-loop
invariant-loop l = l.pass.table ≡ l.self.bag
