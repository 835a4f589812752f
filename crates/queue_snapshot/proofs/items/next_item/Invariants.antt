use Rattle.concurrent_queue.specs.Queues.{IsInside}
use Rattle.concurrent_queue.specs.Windows.{HasOpened}
use Rattle.queue_snapshot.specs.Snapshots.{ReadsItems}
use Rattle.queue_snapshot.proofs.items.next_item.Given as goal

abbrev pub invariant-loop : goal.invariant-loop
invariant-loop g l = IsInside l.queue l.pass × HasOpened l.pass l.window × ReadsItems l.initial.pass l.initial.window l.pass l.window 0
