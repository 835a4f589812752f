use Rattle.std.proofs.Common.{◌≡◌}
use Rattle.race_tests.proofs.bag_once.Trying.meet_list.Given as goal

abbrev pub invariant-loop-number : goal.invariant-loop-number
invariant-loop-number l = l.pass.table ≡ l.self.bag
