use Rattle.concurrent_queue.specs.Queues.{IsOf}
use Rattle.bench.proofs.queue.enqueue_all.Given as goal

abbrev pub invariant-loop-number : goal.invariant-loop-number
invariant-loop-number g l = IsOf l.queue l.pass
