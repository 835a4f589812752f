use Rattle.std.proofs.Common.{◌≡◌, ◌≤◌, length}
use Rattle.std.specs.Vec.{vec_capacity}
use Rattle.queue_tries.specs.Windows.{items_of}
use Rattle.concurrent_queue.specs.Queues.{IsInside}
use Rattle.concurrent_queue.specs.Windows.{HasOpened}
use Rattle.queue_snapshot.specs.Snapshots.{HasGiven}
use Rattle.queue_snapshot.proofs.items.read_all.Given as goal

abbrev pub invariant-loop : goal.invariant-loop
invariant-loop g l =
    IsInside l.queue l.pass × HasOpened l.pass l.window × HasGiven l.initial.pass l.initial.window l.pass l.window l.numbers.items × (length (items_of l.initial.pass.pass.seen l.initial.window) ≤ vec_capacity l.numbers)
