-- A snapshot of a queue: p is the pass before a call, and q after.
use Rattle.std.specs.Prelude.{◌≡◌, ℕ, List, ◌++◌, ◌-◌, length, slice_get, Option, Some, None, Result, Ok, Err}
use Rattle.ho_base.specs.declared.receipts.Receipt.{Receipt}
use Rattle.ho_base.specs.declared.receipts.Receipt.TheVariants.{Looked}
use Rattle.ho_base.specs.declared.memory.NoMemory.{NoMemory}
use Rattle.ho_model.specs.declared.marks.CallMark.TheVariants.{Snap}
use Rattle.ho_model.specs.declared.marks.ReplyMark.TheVariants.{Numbers}
use Rattle.ho_model.specs.Entries.{entry}
use Rattle.passes.specs.Seen.{SeesOthers}
use Rattle.passes.specs.Views.{PassView}
use Rattle.passes.specs.Repeats.{Counts, MeetsMore}
use Rattle.seg_rule.specs.declared.view.Obstacle.{Obstacle}
use Rattle.queue_tries.specs.Windows.{items_of, given_of}
use Rattle.queue_tries.specs.declared.answers.Window.{Window}
use Rattle.concurrent_queue.specs.Passes.{QueueView, Answers}
use Rattle.concurrent_queue.specs.Windows.{EndsBySnap, ReadsOn, IsSameWindow}

-- One entry of the caller, whose reply is all items of the queue at that step. For want of memory nothing has changed.
abbrev pub Snaps : ℕ → QueueView → QueueView → Result (List ℕ × Receipt) NoMemory → Type 0
Snaps first_len p q (Ok (items, receipt)) = Answers first_len p (entry p.pass.caller Snap (Numbers items)) receipt q
Snaps first_len p q (Err want) = q ≡ p

-- No try has made an entry yet. Some may be counted, and each may have met obstacles.
pub record TriesOn {O : Type 0} (p q : PassView O) : Type 0 where
  pub table : q.table ≡ p.table
  pub object : q.object ≡ p.object
  pub callers : q.callers ≡ p.callers
  pub caller : q.caller ≡ p.caller
  pub held : q.held ≡ p.held
  pub seen : SeesOthers p.held p.seen q.seen
  pub counted : (n : ℕ) × Counts n p q
  pub met : MeetsMore p q

-- a snapshot's entry, whose window has given none of its items
abbrev pub Opens : ℕ → QueueView → QueueView → Window → Receipt → Type 0
Opens first_len p q w receipt = EndsBySnap p q first_len w receipt × (given_of w ≡ 0)

-- how many positions lie from the head up to the tail
abbrev pub span_of : Receipt → ℕ
span_of (Looked head tail) = tail - head
span_of _ = 0

module _ (p : QueueView) (a : Window) (q : QueueView) (b : Window) where
  -- the pass has read of others alone, and the window gave so many items more
  abbrev pub ReadsItems : ℕ → Type 0
  ReadsItems more = (read : List Obstacle) × ReadsOn p q read × IsSameWindow p a q b more

  -- the next item of the list, or None where all are given
  abbrev pub GivesNext : Option ℕ → Type 0
  GivesNext (Some item) = ReadsItems 1 × (slice_get (items_of p.pass.seen a) (given_of a) ≡ Some item)
  GivesNext None = ReadsItems 0 × (given_of a ≡ length (items_of p.pass.seen a))

  -- the window, which had given none, has given just these
  abbrev pub HasGiven : List ℕ → Type 0
  HasGiven items = ReadsItems (length items) × ((rest : List ℕ) × (items_of p.pass.seen a ≡ items ++ rest))
