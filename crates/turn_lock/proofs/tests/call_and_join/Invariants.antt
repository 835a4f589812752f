use Rattle.std.proofs.Common.{◌≡◌}
use Rattle.turn_lock.proofs.tests.call_and_join.Given as goal

abbrev pub invariant-loop-other : goal.invariant-loop-other
invariant-loop-other l = l.pass.table ≡ l.shared
