-- A snapshot's window, and what its calls come to: p is the pass before, and q after.
use Rattle.std.specs.Prelude.{◌≡◌, ℕ, ◌+◌, ◌*◌, ◌<◌, ◌++◌, List, length, slice_get, None, Some, Contains}
use Rattle.ho_base.specs.Marks.{number_priority}
use Rattle.ho_base.specs.declared.receipts.Receipt.{Receipt}
use Rattle.ho_model.specs.declared.marks.EntryMark.{EntryMark}
use Rattle.ho_model.specs.declared.marks.CallMark.TheVariants.{Snap}
use Rattle.ho_model.specs.declared.marks.ReplyMark.TheVariants.{Numbers}
use Rattle.ho_model.specs.Entries.{entry}
use Rattle.ho_model.specs.Enqueues.{putters_of}
use Rattle.ho_model.specs.QueueReceipts.{IsQueueReceipt}
use Rattle.ho_model.specs.Tallies.{tally_of}
use Rattle.passes.specs.Numbers.{HasNumber}
use Rattle.passes.specs.Views.{PassView, IsWhole}
use Rattle.passes.specs.Repeats.{EndsByEntry, Counts}
use Rattle.seg_rule.specs.declared.view.Obstacle.{Obstacle}
use Rattle.seg_rule.specs.declared.view.Obstacle.TheVariants.{Unpublished}
use Rattle.seg_rule.specs.Tells.{places_in}
use Rattle.queue_tries.specs.Windows.{items_of, given_of, IsWindowOf}
use Rattle.queue_tries.specs.declared.answers.QueueOnce.{QueueOnce}
use Rattle.queue_tries.specs.declared.answers.QueueOnce.TheVariants.{Answer, Again, Spent}
use Rattle.queue_tries.specs.declared.answers.Next.{Next}
use Rattle.queue_tries.specs.declared.answers.Next.TheVariants as next
use Rattle.queue_tries.specs.declared.answers.Window.{Window}
use Rattle.concurrent_queue.specs.Passes.{QueueView}
use Rattle.concurrent_queue.specs.Tries.{HasNoCallLeft, MakesNone, IsSpent, CountCause}

-- the pass has opened this window, and not ended it
abbrev pub HasOpened : QueueView → Window → Type 0
HasOpened p w = IsWindowOf (places_in p.pass.object p.pass.callers) p.pass.seen p.window w

-- another caller enqueued the position
pub record IsPutByOther (p : QueueView) (position : ℕ) : Type 0 where
  pub putter : ℕ
  pub enqueued : slice_get (putters_of p.pass.seen) position ≡ Some putter
  pub not_held : ¬ HasNumber p.pass.held putter
  pub not_whole : ¬ IsWhole p.pass

module _ (p q : QueueView) where
  -- a snapshot's entry, whose reply is the list of the window
  abbrev pub EndsBySnap : ℕ → Window → Receipt → Type 0
  EndsBySnap first_len w receipt =
      let e : EntryMark = entry p.pass.caller Snap (Numbers (items_of q.pass.seen w)) in (before : List EntryMark) × EndsByEntry number_priority p.pass before e q.pass × IsQueueReceipt first_len e.call e.reply (tally_of before) receipt

  -- One try of a snapshot. The window has given none of its items.
  abbrev pub WindowsOnce : ℕ → QueueOnce Window → Type 0
  WindowsOnce first_len (Answer w receipt) = (¬ HasNoCallLeft p) × EndsBySnap first_len w receipt × Counts 1 p.pass q.pass × HasOpened q w × (w.at ≡ w.head)
  WindowsOnce first_len (Again again) = (read : List Obstacle) × MakesNone p q again read × CountCause p q read again
  WindowsOnce first_len Spent = IsSpent p q

  -- The pass has read this of others, and is the same but for its window.
  abbrev pub ReadsOn : List Obstacle → Type 0
  ReadsOn read = q.pass ≡ record p.pass { met = p.pass.met ++ read }

module _ (p : QueueView) (a : Window) (q : QueueView) (b : Window) where
  -- the window has the same list, and gave so many items more
  abbrev pub IsSameWindow : ℕ → Type 0
  IsSameWindow more = (items_of q.pass.seen b ≡ items_of p.pass.seen a) × (given_of b ≡ given_of a + more)

  -- What a look at the next item comes to: the pass p had the window a, and q has b. The item is that of the list, or none is left, or the position was enqueued by another caller, and this call has read its slot as not published.
  abbrev pub Gives : Next → Type 0
  Gives (next.Item item) = (read : List Obstacle) × ReadsOn p q read × IsSameWindow 1 × (slice_get (items_of p.pass.seen a) (given_of a) ≡ Some item)
  Gives next.End = (q ≡ p) × (b ≡ a) × (given_of a ≡ length (items_of p.pass.seen a))
  Gives next.InFlight = (read : List Obstacle) × ReadsOn p q read × IsSameWindow 0 × (given_of a < length (items_of p.pass.seen a)) × ((place : ℕ) × Contains read (Unpublished place a.at (2 * a.at))) × IsPutByOther p a.at
