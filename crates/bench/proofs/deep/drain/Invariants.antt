use Rattle.concurrent_queue.specs.Queues.{IsOf}
use Rattle.bench.proofs.deep.drain.Given as goal

abbrev pub invariant-loop : goal.invariant-loop
invariant-loop g l = IsOf l.queue l.pass
