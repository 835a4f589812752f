use Rattle.std.proofs.Common.{◌≡◌}
use Rattle.turn_lock.proofs.tests.threads.queue_up_often.Given as goal

abbrev pub invariant-loop : goal.invariant-loop
invariant-loop g l = l.pass.table ≡ l.shared
