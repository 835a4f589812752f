-- What a try knows that looks at the tail of the current place.
use Rattle.std.specs.Prelude.{◌≡◌, ◌≢◌, ℕ, ◌+◌, ◌*◌, ◌^◌, ◌<◌, ◌++◌, List, [], ◌∷◌, Option, Some, None, Result, Ok, Err, true, false}
use Rattle.seg_layout.specs.Lengths.{IsSegmentLength}
use Rattle.seg_rule.specs.declared.view.View.{View}
use Rattle.seg_rule.specs.declared.view.Notes.{Notes}
use Rattle.seg_rule.specs.declared.view.OpenTail.{OpenTail}
use Rattle.seg_rule.specs.declared.view.Obstacle.{Obstacle}
use Rattle.seg_rule.specs.declared.view.Obstacle.TheVariants.{ClosedCurrent, NotFree}
use Rattle.seg_rule.specs.declared.view.Stage.TheVariants.{Plain}
use Rattle.seg_rule.specs.Steps.{blank, blank_scan, fit_tail}
use Rattle.seg_rule.specs.Tells.{first_len_in, room_in}
use Rattle.seg_rule.specs.Entering.{EntersFull}

-- Only what was met and what is noted changed.
abbrev pub noticed : View → List Obstacle → Notes → View
noticed v read notes = record v { met = v.met ++ read; notes = notes }

-- the current place was read
abbrev pub at_current : ℕ → Notes
at_current place = record blank { scan = record blank_scan { current = Some place } }

abbrev pub tail_at : ℕ → ℕ → OpenTail
tail_at place t = record { place = place; position = t; length = None; number = None; fits = false; full = false }

-- then its open tail
abbrev pub at_tail : ℕ → ℕ → Notes
at_tail place t = record (at_current place) { tail = Some (tail_at place t) }

-- and then the head
abbrev pub at_room : ℕ → ℕ → ℕ → Notes
at_room place t head = record (at_tail place t) { head = Some head }

-- the slot of the tail was read as not free for it, in a segment of this length
abbrev pub full_tail : ℕ → ℕ → ℕ → OpenTail
full_tail place t length = record { place = place; position = t; length = Some length; number = None; fits = false; full = true }

-- a try begins
abbrev pub begun_at : ℕ → View → View
begun_at place v = record v { notes = at_current place; paid = false }

-- the tail of the current place is open at a position, or it is closed, which it is not for the holder of the turn
abbrev pub SeesTail : View → ℕ → Option ℕ → View → Type 0
SeesTail v place (Some t) w = (w ≡ record v { notes = at_tail place t }) × (2 * t < 2 ^ 60)
SeesTail v place None w = (v.stage ≢ Plain) × ((notes : Notes) × (w ≡ noticed v (ClosedCurrent place ∷ []) notes))

-- there is room above the head for the tail, or the enqueue of the item is full
abbrev pub SeesRoom : View → ℕ → ℕ → ℕ → Result ℕ ℕ → View → Type 0
SeesRoom v place t item (Ok head) w = (w ≡ record v { notes = at_room place t head }) × (t < head + room_in v.object)
SeesRoom v place t item (Err head) w = EntersFull v item t w × (head + room_in v.object ≡ t)

-- the slot of the tail is free for it
pub record FindsFree (v : View) (place t : ℕ) (w : View) : Type 0 where
  pub length : ℕ
  pub notes : Notes
  pub left : w ≡ record v { notes = notes }
  pub head : notes.head ≡ v.notes.head
  pub tail : notes.tail ≡ Some (fit_tail place t length None false)
  pub current : notes.scan.current ≡ Some place

-- it is not, so that the segment, of this length, is full
pub record FindsFull (v : View) (place t length : ℕ) (w : View) : Type 0 where
  pub number : ℕ
  pub notes : Notes
  pub left : w ≡ noticed v (NotFree place t number ∷ []) notes
  pub head : notes.head ≡ v.notes.head
  pub tail : notes.tail ≡ Some (full_tail place t length)
  pub taken : number ≢ 2 * t
  pub is_length : IsSegmentLength (first_len_in v.object) length

abbrev pub SeesSlot : View → ℕ → ℕ → Option ℕ → View → Type 0
SeesSlot v place t None w = FindsFree v place t w
SeesSlot v place t (Some length) w = FindsFull v place t length w
