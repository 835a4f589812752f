-- A snapshot's window, and what its calls come to: p is the pass before, and q after.
use Rattle.std.specs.Prelude.{◌≡◌, ℕ, ◌+◌, ◌-◌, ◌*◌, ◌<◌, ◌≤◌, ◌++◌, List, length, slice_get, Option, None, Some, Contains}
use Rattle.ho_model.specs.declared.marks.EntryMark.{EntryMark}
use Rattle.ho_model.specs.declared.marks.CallMark.TheVariants.{Snap}
use Rattle.ho_model.specs.declared.marks.ReplyMark.TheVariants.{Numbers}
use Rattle.ho_model.specs.Entries.{entry}
use Rattle.ho_model.specs.Enqueues.{values_of, putters_of}
use Rattle.passes.specs.Numbers.{HasNumber}
use Rattle.seg_rule.specs.declared.view.View.{View}
use Rattle.seg_rule.specs.declared.view.Obstacle.{Obstacle}
use Rattle.seg_rule.specs.declared.view.Obstacle.TheVariants.{Unpublished}
use Rattle.seg_rule.specs.declared.view.Window as view
use Rattle.seg_rule.specs.declared.view.Hand.TheVariants.{Nothing}
use Rattle.seg_rule.specs.declared.view.Stage.TheVariants.{Away}
use Rattle.seg_rule.specs.Rule.{IsWhole}
use Rattle.seg_rule.specs.Snapshots.{numbers_from}
use Rattle.seg_rule.specs.Steps.{IsAtRest}
use Rattle.seg_rule.specs.Passes.{QueueView, pass_of}
use Rattle.seg_rule.specs.Tells.{place_count}
use Rattle.queue_tries.specs.Tries.{MakesEntry, MakesNone, IsSpent, CountCause}
use Rattle.queue_tries.specs.declared.answers.QueueOnce.{QueueOnce}
use Rattle.queue_tries.specs.declared.answers.QueueOnce.TheVariants.{Answer, Again, Spent}
use Rattle.queue_tries.specs.declared.answers.Next.{Next}
use Rattle.queue_tries.specs.declared.answers.Next.TheVariants as next
use Rattle.queue_tries.specs.declared.answers.Window.{Window}

-- the numbers of its items, in order, by the history that its pass has seen
abbrev pub items_of : List EntryMark → Window → List ℕ
items_of history w = numbers_from w.head history

-- how many of them were given
abbrev pub given_of : Window → ℕ
given_of w = w.at - w.head

-- A pass of a queue with so many places, which has seen this history, has opened this window.
pub record IsWindowOf (places : ℕ) (history : List EntryMark) (there : Option view.Window) (w : Window) : Type 0 where
  pub seen : view.Window
  pub there_is : there ≡ Some seen
  pub first : seen.first ≡ w.first
  pub last : seen.last ≡ w.last
  pub tail : seen.tail ≡ w.tail
  pub inside : (w.first < places) × (w.last < places)
  pub from : (seen.head ≤ w.at) × (w.head ≤ w.at)
  pub until : w.at ≤ w.tail
  pub all : length (values_of history) ≡ w.tail

-- the same, between calls
pub record HasOpened (p : QueueView) (w : Window) : Type 0 where
  pub window : IsWindowOf (place_count p.view) p.view.seen p.view.window w
  pub hand : p.view.hand ≡ Nothing
  pub stage : p.view.stage ≡ Away
  pub joint : p.view.joint ≡ None

module _ (p q : QueueView) where
  -- One try of a snapshot. Its reply is the list of the window's items, of which none is given.
  abbrev pub WindowsOnce : QueueOnce Window → Type 0
  WindowsOnce (Answer w receipt) = MakesEntry p q (entry p.view.caller Snap (Numbers (items_of q.view.seen w))) receipt × HasOpened q w × (w.at ≡ w.head)
  WindowsOnce (Again again) = IsAtRest q.view × ((read : List Obstacle) × MakesNone p q again read × CountCause p q read again)
  WindowsOnce Spent = IsSpent p q

  -- The pass has read this of others, and is the same but for its window.
  abbrev pub ReadsOn : List Obstacle → Type 0
  ReadsOn read = pass_of q ≡ record (pass_of p) { met = p.view.met ++ read }

-- another caller enqueued the position
pub record IsPutByOther (v : View) (position : ℕ) : Type 0 where
  pub putter : ℕ
  pub enqueued : slice_get (putters_of v.seen) position ≡ Some putter
  pub not_held : ¬ HasNumber v.held putter
  pub not_whole : ¬ IsWhole v

module _ (p : QueueView) (a : Window) (q : QueueView) (b : Window) where
  -- the window has the same list, and gave so many items more
  abbrev pub IsSameWindow : ℕ → Type 0
  IsSameWindow more = (items_of q.view.seen b ≡ items_of p.view.seen a) × (given_of b ≡ given_of a + more)

  -- What a look at the next item comes to: the pass p had the window a, and q has b. The item is that of the list, or none is left, or the position was enqueued by another caller, and this call has read its slot as not published.
  abbrev pub Gives : Next → Type 0
  Gives (next.Item item) = (read : List Obstacle) × ReadsOn p q read × IsSameWindow 1 × (slice_get (items_of p.view.seen a) (given_of a) ≡ Some item)
  Gives next.End = (q ≡ p) × (b ≡ a) × (given_of a ≡ length (items_of p.view.seen a))
  Gives next.InFlight = (read : List Obstacle) × ReadsOn p q read × IsSameWindow 0 × (given_of a < length (items_of p.view.seen a)) × ((place : ℕ) × Contains read (Unpublished place a.at (2 * a.at))) × IsPutByOther p.view a.at
