use Rattle.concurrent_queue.specs.Queues.{IsOf}
use Rattle.bench.proofs.deep.go_through.Given as goal

abbrev pub invariant-loop-from : goal.invariant-loop-from
invariant-loop-from g l = IsOf l.queue l.pass
