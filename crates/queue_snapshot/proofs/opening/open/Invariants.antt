use Rattle.concurrent_queue.specs.Queues.{IsOf}
use Rattle.queue_snapshot.specs.Snapshots.{TriesOn}
use Rattle.queue_snapshot.proofs.opening.open.Given as goal

abbrev pub invariant-loop : goal.invariant-loop
invariant-loop g l = IsOf l.queue l.pass × TriesOn l.initial.pass.pass l.pass.pass
