-- How a dequeue and a peek look for the first item: v is the view before, and w after.
use Rattle.std.specs.Prelude.{◌≡◌, ◌≢◌, ℕ, ◌*◌, ◌%◌, ◌<◌, ◌++◌, ◌⊎◌, List, Option, None, Some, Bool, true, false, Contains, if◌then◌else◌}
use Rattle.ho_base.specs.Marks.{number_priority}
use Rattle.ho_model.specs.declared.marks.CallMark.{CallMark}
use Rattle.ho_model.specs.declared.marks.CallMark.TheVariants.{Deq, Peek}
use Rattle.ho_model.specs.Entries.{entry}
use Rattle.ho_model.specs.QueueReceipts.{IsQueueReceipt}
use Rattle.passes.specs.Seen.{SeesOthers, IsLawful}
use Rattle.seg_rule.specs.declared.form.Form.{Form}
use Rattle.seg_rule.specs.declared.view.View.{View}
use Rattle.seg_rule.specs.declared.view.Front.{Front}
use Rattle.seg_rule.specs.declared.view.Obstacle.{Obstacle}
use Rattle.seg_rule.specs.declared.view.Obstacle.TheVariants.{Unpublished}
use Rattle.seg_rule.specs.declared.view.Hand.TheVariants.{Nothing}
use Rattle.seg_rule.specs.declared.view.Stage.TheVariants.{Plain}
use Rattle.seg_rule.specs.Rule.{IsWhole}
use Rattle.seg_rule.specs.Steps.{blank, blank_scan, front_of, MayCount}
use Rattle.seg_rule.specs.Loads.{length_note, item_note}
use Rattle.seg_rule.specs.Tells.{IsInFlight, first_len_in}
use Rattle.seg_rule.specs.Entering.{EntersEmpty}
use Rattle.seg_rule.specs.Passes.{QueueView}
use Rattle.queue_tries.specs.Causes.{HeadHasMoved, FirstIsBare}
use Rattle.queue_tries.specs.Tries.{MakesEntry, MakesNone, IsSpent, DequeueCause, dequeue_mark}
use Rattle.queue_tries.specs.Walks.{GoesOn, WalksFree, WalksPaid, Made}
use Rattle.queue_tries.specs.declared.answers.DequeueReply.{DequeueReply}
use Rattle.queue_tries.specs.declared.answers.DequeueReply.TheVariants as dequeue
use Rattle.queue_tries.specs.declared.answers.QueueOnce.{QueueOnce}
use Rattle.queue_tries.specs.declared.answers.QueueOnce.TheVariants.{Answer, Again, Spent}
use Rattle.queue_tries.specs.declared.answers.QueueAgain.TheVariants.{Lost, Turn, InFlight, NoPlace}
use Rattle.queue_tries.specs.declared.fronts.Inside.{Inside}
use Rattle.queue_tries.specs.declared.fronts.Inside.TheVariants as inside
use Rattle.queue_tries.specs.declared.fronts.Freely.{Freely}
use Rattle.queue_tries.specs.declared.fronts.Freely.TheVariants as freely
use Rattle.queue_tries.specs.declared.fronts.Turned.{Turned}
use Rattle.queue_tries.specs.declared.fronts.Turned.TheVariants as turned
use Rattle.queue_tries.specs.declared.fronts.Search.{Search}
use Rattle.queue_tries.specs.declared.fronts.Search.TheVariants as search_end

-- A call that has made no entry may make one; it has nothing in hand.
pub record IsReady (v : View) : Type 0 where
  pub may : MayCount v
  pub hand : v.hand ≡ Nothing
  pub window : v.window ≡ None
  pub joint : v.joint ≡ None

-- a call begins by a load of the first place
abbrev pub begun_first : View → ℕ → View
begun_first v place = record v { notes = record blank { scan = record blank_scan { first = Some place } }; paid = false }

-- the head was read
abbrev pub headed : View → ℕ → View
headed v head = record v { notes = record v.notes { head = Some head } }

-- the length of a place was read
abbrev pub sized : View → ℕ → ℕ → View
sized v place length = record v { notes = record v.notes { tail = length_note place length v.notes.tail; scan = record v.notes.scan { length = Some (place, length) } } }

-- the item of a slot was read
abbrev pub shown : View → ℕ → ℕ → ℕ → View
shown v place slot item = record v { notes = record v.notes { front = item_note place slot item v.notes.front } }

-- by the length of the place, the position lies in this slot
pub record Measures (v : View) (place position slot : ℕ) (w : View) : Type 0 where
  pub length : ℕ
  pub left : w ≡ sized v place length
  pub positive : 0 < length
  pub slot_is : slot ≡ position % length

-- a published position whose item was not read
abbrev pub published_at : ℕ → ℕ → ℕ → Front
published_at head place slot = record { position = head; place = place; slot = slot; item = None }

-- the slot of the head is published
pub record IsPublished (v : View) (place head slot : ℕ) (w : View) : Type 0 where
  pub read : List Obstacle
  pub goes : GoesOn v w read
  pub head_is : w.notes.head ≡ Some head
  pub front : w.notes.front ≡ Some (published_at head place slot)

-- it is not, in the place read as first
pub record IsBare (v : View) (head : ℕ) (w : View) : Type 0 where
  pub read : List Obstacle
  pub goes : GoesOn v w read
  pub head_is : w.notes.head ≡ Some head
  pub bare : FirstIsBare read

abbrev pub SeesFirst : View → ℕ → ℕ → Option ℕ → View → Type 0
SeesFirst v place head (Some slot) w = IsPublished v place head slot w
SeesFirst v place head None w = IsBare v head w

-- the head is in flight, by the whole history that is seen now
pub record SeesFlight (v w : View) : Type 0 where
  pub object : w.object ≡ v.object
  pub callers : w.callers ≡ v.callers
  pub caller : w.caller ≡ v.caller
  pub held : w.held ≡ v.held
  pub made : w.made ≡ v.made
  pub joint : w.joint ≡ None
  pub hand : w.hand ≡ v.hand
  pub window : w.window ≡ v.window
  pub seen : SeesOthers v.held v.seen w.seen
  pub lawful : IsLawful number_priority v.object v.callers w.seen
  pub read : List Obstacle
  pub met : w.met ≡ v.met ++ read
  pub place : ℕ
  pub head : ℕ
  pub unpublished : Contains read (Unpublished place head (2 * head))
  pub flight : IsInFlight v head w.seen

-- the head stands above the one noted by now
abbrev pub HasGone : View → Type 0
HasGone v = (head : ℕ) × (v.notes.head ≡ Some head) × (v.notes.gone ≡ Some head)

-- it has moved on from this one
pub record IsGone (v : View) (head : ℕ) (w : View) : Type 0 where
  pub read : List Obstacle
  pub goes : GoesOn v w read
  pub head_is : w.notes.head ≡ Some head
  pub gone : w.notes.gone ≡ Some head

abbrev pub SeesInside : View → ℕ → ℕ → Inside → View → Type 0
SeesInside v place head (inside.Published slot) w = IsPublished v place head slot w
SeesInside v place head inside.InFlight w = SeesFlight v w
SeesInside v place head inside.Gone w = IsGone v head w

-- The tail of the first place is not open at the head. To the holder of the turn the head then lies in that place.
pub record IsNotEmpty (v : View) (place head : ℕ) (w : View) : Type 0 where
  pub read : List Obstacle
  pub goes : GoesOn v w read
  pub head_is : w.notes.head ≡ Some head
  pub first : w.notes.scan.first ≡ v.notes.scan.first
  pub inside : v.stage ≡ Plain → v.notes.scan.first ≡ Some place → (current : ℕ) → v.notes.scan.current ≡ Some current → (place ≢ current → v.notes.scan.inside ≡ Some head) → w.notes.scan.inside ≡ Some head

abbrev pub SeesTail : View → ℕ → ℕ → Bool → Bool → View → Type 0
SeesTail v place head peek true w = EntersEmpty v head peek w
SeesTail v place head peek false w = IsNotEmpty v place head w

-- the first item was read, with its place and its position
abbrev pub HasFront : View → ℕ → ℕ → ℕ → Type 0
HasFront v place head item = (v.notes.head ≡ Some head) × ((slot : ℕ) × (v.notes.front ≡ Some (front_of head place slot item)))

-- the call that is made
abbrev pub asked : Bool → CallMark
asked peek = if peek then Peek else Deq

-- a head above the one noted was read
abbrev pub IsLost : View → View → Type 0
IsLost v w = (read : List Obstacle) × GoesOn v w read × HeadHasMoved read × (¬ IsWhole v)

-- The end of a call from the point v of it.
abbrev pub EndsAs : CallMark → View → View → QueueOnce DequeueReply → Type 0
EndsAs call v w (Answer reply receipt) = Made v (entry v.caller call (dequeue_mark reply)) (λ t. IsQueueReceipt (first_len_in v.object) call (dequeue_mark reply) t receipt) w
EndsAs call v w (Again Lost) = IsLost v w
EndsAs call v w (Again InFlight) = ⊥
EndsAs call v w (Again Turn) = ⊥
EndsAs call v w (Again NoPlace) = ⊥
EndsAs call v w Spent = ⊥

-- The same under the turn, where the head may be in flight.
abbrev pub EndsInside : CallMark → View → View → QueueOnce DequeueReply → Type 0
EndsInside call v w (Again InFlight) = SeesFlight v w
EndsInside call v w once = EndsAs call v w once

-- a try with or without the turn, which it does not have now
abbrev pub Walked : View → View → List Obstacle → Type 0
Walked v w read = WalksFree v w read ⊎ WalksPaid v w read

-- without the turn
abbrev pub LooksFreely : View → Bool → Freely → View → Type 0
LooksFreely v peek (freely.Found place head item) w = (read : List Obstacle) × WalksFree v w read × HasFront w place head item
LooksFreely v peek (freely.Empty head) w = (read : List Obstacle) × (u : View) × WalksFree v u read × EntersEmpty u head peek w
LooksFreely v peek freely.Bare w = (read : List Obstacle) × WalksFree v w read × FirstIsBare read

-- under the turn, which is given back
abbrev pub LooksInside : View → Bool → Turned → View → Type 0
LooksInside v peek (turned.Published place head slot) w = IsPublished v place head slot w
LooksInside v peek (turned.Empty head) w = Made v (entry v.caller (asked peek) (dequeue_mark dequeue.Empty)) (λ t. (t.enqueued ≡ head) × (t.taken ≡ head)) w
LooksInside v peek turned.InFlight w = SeesFlight v w
LooksInside v peek turned.Gone w = (head : ℕ) × IsGone v head w

abbrev pub FindsInside : View → Bool → Search → View → Type 0
FindsInside v peek (search_end.Found place head item) w = (read : List Obstacle) × GoesOn v w read × HasFront w place head item
FindsInside v peek (search_end.Ended once) w = EndsInside (asked peek) v w once

-- Places and slots are those of the table.

abbrev pub IsSlot : ℕ → Inside → Type 0
IsSlot slots (inside.Published slot) = slot < slots
IsSlot slots _ = Unit {0}

abbrev pub IsFreePlace : ℕ → Freely → Type 0
IsFreePlace places (freely.Found place head item) = place < places
IsFreePlace places _ = Unit {0}

abbrev pub IsTurnedSlot : Form → Turned → Type 0
IsTurnedSlot f (turned.Published place head slot) = (place < f.places) × (slot < f.slots)
IsTurnedSlot f _ = Unit {0}

abbrev pub IsPlace : ℕ → Search → Type 0
IsPlace places (search_end.Found place head item) = place < places
IsPlace places _ = Unit {0}

module _ (p q : QueueView) where
  -- a dequeue or a peek
  abbrev pub Asks : CallMark → QueueOnce DequeueReply → Type 0
  Asks call (Answer reply receipt) = MakesEntry p q (entry p.view.caller call (dequeue_mark reply)) receipt
  Asks call (Again again) = (read : List Obstacle) × MakesNone p q again read × DequeueCause p q read again
  Asks call Spent = IsSpent p q

  abbrev pub FindsFront : Bool → Search → Type 0
  FindsFront peek (search_end.Found place head item) = (read : List Obstacle) × Walked p.view q.view read × MayCount q.view × HasFront q.view place head item
  FindsFront peek (search_end.Ended once) = Asks (asked peek) once
