use Rattle.concurrent_queue.specs.Queues.{IsOf}
use Rattle.queue_snapshot.proofs.tests.take.Given as goal

abbrev pub invariant-loop : goal.invariant-loop
invariant-loop g l = IsOf l.queue l.pass
