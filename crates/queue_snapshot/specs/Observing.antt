-- A snapshot whose items are read one by one.
use Rattle.std.specs.Prelude.{◌≡◌, ℕ, ◌+◌, List, length}
use Rattle.queue_tries.specs.Windows.{items_of, given_of}
use Rattle.concurrent_queue.specs.Queues.{IsInside}
use Rattle.concurrent_queue.specs.Windows.{HasOpened}
use Rattle.queue_snapshot.specs.declared.observed.Observed.{Observed}

-- the items of the queue at its entry's step
abbrev pub list_of : Observed → List ℕ
list_of o = items_of o.pass.now.pass.seen o.window

-- its pass has the window open, and so many items are left
pub record IsLive (o : Observed) : Type 0 where
  pub inside : IsInside o.queue.now o.pass.now
  pub opened : HasOpened o.pass.now o.window
  pub count : o.left + given_of o.window ≡ length (list_of o)

-- it borrows the same pass of the same queue, and its entry is the same
pub record IsSame (a b : Observed) : Type 0 where
  pub reference : b.pass.ghost_name ≡ a.pass.ghost_name
  pub queue : b.queue.now ≡ a.queue.now
  pub receipt : b.receipt ≡ a.receipt
