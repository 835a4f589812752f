use Rattle.concurrent_queue.specs.Queues.{IsOf}
use Rattle.concurrent_queue.proofs.tests.shared.items_go_through_in_order.Given as goal

abbrev pub invariant-loop-turn : goal.invariant-loop-turn
invariant-loop-turn g l = IsOf l.queue l.pass
