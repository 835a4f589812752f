use Rattle.concurrent_queue.specs.Queues.{IsOf}
use Rattle.bench.proofs.pairs.count_all.Given as goal

abbrev pub invariant-loop : goal.invariant-loop
invariant-loop g l = (goal.iterator-loop g).can_next l.iterator' × (goal.iterator-loop g).is_finite l.iterator' × IsOf l.queue l.pass
