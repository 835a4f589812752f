use Rattle.concurrent_queue.specs.Queues.{IsOf}
use Rattle.queue_snapshot.proofs.tests.fill.Given as goal

abbrev pub invariant-loop-value : goal.invariant-loop-value
invariant-loop-value g l = IsOf l.queue l.pass
