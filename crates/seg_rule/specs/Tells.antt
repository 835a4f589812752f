-- What steps tell beside the view that they leave.
use Rattle.std.specs.Prelude.{◌+◌, ◌≡◌, ◌≢◌, ℕ, suc, ◌*◌, ◌%◌, ◌^◌, ◌<◌, ◌≤◌, ◌⊎◌, ◌&&◌, Bool, true, false, List, [], ◌∷◌, length, Some, None, slice_get, IfSome}
use Rattle.ho_base.specs.Marks.{number_priority}
use Rattle.ho_model.specs.declared.marks.EntryMark.{EntryMark}
use Rattle.ho_model.specs.Enqueues.{values_of, putters_of}
use Rattle.ho_model.specs.Tallies.{tally_of}
use Rattle.passes.specs.Numbers.{HasNumber}
use Rattle.passes.specs.Seen.{SeesOthers, IsLawful}
use Rattle.seg_rule.specs.declared.word.QueueWord.{QueueWord}
use Rattle.seg_rule.specs.declared.word.QueueWord.TheVariants.{Head, Current, First, Tail, Length, Next, Segment, Number, Item}
use Rattle.seg_rule.specs.declared.view.View.{View}
use Rattle.seg_rule.specs.declared.view.Window.{Window}
use Rattle.seg_rule.specs.declared.view.Stage.TheVariants.{Plain, Observing}
use Rattle.seg_rule.specs.declared.view.Hand.{Hand}
use Rattle.seg_rule.specs.declared.view.Hand.TheVariants.{Nothing, Reserved, Stored}
use Rattle.ho_model.specs.declared.objects.Object.{Object}
use Rattle.ho_model.specs.declared.objects.Object.TheVariants.{Queue}
use Rattle.seg_layout.specs.Lengths.{IsSegmentLength, longest_of, places_of}
use Rattle.seg_rule.specs.Rule.{IsWhole}
use Rattle.seg_rule.specs.Loads.{has_turn, has_closed, is_front_slot, is_free_by, lies_at}

-- another word than the one noted is above it, and there is another caller
abbrev pub IsAbove : View → ℕ → ℕ → Type 0
IsAbove v x h = x ≢ h → (h < x) × (¬ IsWhole v)

-- how many places the table has, with how many slots
abbrev pub places_in : Object → ℕ → ℕ
places_in (Queue room first_len) callers = places_of room first_len callers
places_in _ callers = 0

abbrev pub slots_in : Object → ℕ
slots_in (Queue room first_len) = longest_of first_len
slots_in _ = 0

abbrev pub room_in : Object → ℕ
room_in (Queue room first_len) = room
room_in _ = 0

abbrev pub first_len_in : Object → ℕ
first_len_in (Queue room first_len) = first_len
first_len_in _ = 0

abbrev pub place_count : View → ℕ
place_count v = places_in v.object v.callers

abbrev pub slot_count : View → ℕ
slot_count v = slots_in v.object

-- the place p is not the current one that was read, or the pass has the turn and has not closed the tail
abbrev pub IsBeside : View → ℕ → Type 0
IsBeside v p = (v.stage ≡ Plain) ⊎ ((c : ℕ) × (v.notes.scan.current ≡ Some c) × (c ≢ p))

-- What a load of the tail of the place p tells that reads x: an open tail is at a noted one or above, and at a noted head or above. To a pass that has the turn, and has not closed the tail, the tail of the current place is open and that of another place is closed; once it has closed it, each tail is closed. The closed tail of the first place is above the ends that first was moved past under this turn.
pub record TellsTail (p x : ℕ) (v : View) : Type 0 where
  pub above : IfSome v.notes.tail (λ o. (t : ℕ) → x ≡ 2 * t → IsAbove v t o.position)
  pub small : x < 2 ^ 60
  pub head : IfSome v.notes.head (λ h. (t : ℕ) → x ≡ 2 * t → h ≤ t)
  pub current : v.stage ≡ Plain → v.notes.scan.current ≡ Some p → x % 2 ≡ 0
  pub other : (c : ℕ) → v.stage ≡ Plain → v.notes.scan.current ≡ Some c → c ≢ p → x % 2 ≡ 1
  pub closed : has_closed v.stage ≡ true → x % 2 ≡ 1
  pub beyond : (e : ℕ) → has_turn v.stage ≡ true → v.notes.scan.first ≡ Some p → IsBeside v p → x ≡ 2 * e + 1 → IfSome v.notes.scan.moved (λ m. m < e)

-- a position that was enqueued in the place q, and is in hand, is this one or above
abbrev pub IsFrom : ℕ → ℕ → Hand → Type 0
IsFrom q least (Reserved p r i y) = r ≡ q → least ≤ p
IsFrom q least (Stored p r i y) = r ≡ q → least ≤ p
IsFrom q least _ = Unit {0}

-- Beside what was read before: a noted tail is at most the room above the head; the head stands above one that it stands above by now, no word of head or tail comes near its limit, places are those of the table, and lengths fit. Each segment that was opened before that of a position in hand has the first length at least.
abbrev pub Told : QueueWord → ℕ → View → Type 0
Told Head x v = IfSome v.notes.head (IsAbove v x) × IfSome v.notes.gone (λ h. h < x) × (x < 2 ^ 60) × IfSome v.notes.tail (λ o. o.position ≤ x + room_in v.object)
Told Current x v = x < place_count v
Told First x v = x < place_count v
Told (Tail p) x v = TellsTail p x v
Told (Length p) x v = IsSegmentLength (first_len_in v.object) x × (2 ≤ x) × (x ≤ slot_count v)
Told (Next p) x v = x < place_count v
Told (Segment p) x v = IsFrom p (x * first_len_in v.object) v.hand
Told _ x v = Unit {0}

-- a pass with nothing in hand sees that the slot of the head, in the place where it lies, is free still
abbrev pub is_idle : Hand → Bool
is_idle Nothing = true
is_idle _ = false

abbrev pub sees_in_flight : QueueWord → ℕ → View → Bool
sees_in_flight (Number p i) x v = is_idle v.hand && (is_front_slot (has_turn v.stage) p i v.notes.head v.notes.scan && is_free_by v.notes.head x)
sees_in_flight _ x v = false

-- the position is the first one that was not taken, and was enqueued by a caller whose number is not held, so that there is another caller
pub record IsInFlight (v : View) (position : ℕ) (history : List EntryMark) : Type 0 where
  pub putter : ℕ
  pub enqueued : slice_get (putters_of history) position ≡ Some putter
  pub first : (tally_of history).taken ≡ position
  pub not_held : ¬ HasNumber v.held putter
  pub not_whole : ¬ IsWhole v

-- What was seen of the history has at the position a the item y, if it has that position.
abbrev pub SeesItem : View → ℕ → ℕ → Type 0
SeesItem v a y = a < length (values_of v.seen) → slice_get (values_of v.seen) a ≡ Some (y ∷ [])

-- The same of the caller who put an item there: its number is not held, so that there is another caller.
pub record SeesPutter (v : View) (a : ℕ) : Type 0 where
  pub putter : ℕ
  pub enqueued : a < length (values_of v.seen) → slice_get (putters_of v.seen) a ≡ Some putter
  pub not_held : ¬ HasNumber v.held putter
  pub not_whole : ¬ IsWhole v

-- What a load that reads x tells a pass of its window o, by what was read of the first place. Where that is not the last one its tail is closed, and segments follow. The slot of a position that lies in it shows the published number, or else the free one, while another caller is about to publish it. The item beside the published number is the one that was seen. While places are observed, a segment that others follow has a number below the closed tail.
pub record TellsWindow (w : QueueWord) (x : ℕ) (v : View) (o : Window) : Type 0 where
  pub closed : w ≡ Tail o.first → o.first ≢ o.last → x % 2 ≡ 1
  pub more : w ≡ Next o.first → o.first ≢ o.last → suc o.begin < o.end
  pub number : (i a : ℕ) → w ≡ Number o.first i → v.hand ≡ Nothing → lies_at o i a ≡ true → (x ≡ 2 * a + 1) ⊎ ((x ≡ 2 * a) × SeesPutter v a)
  pub item : (i a : ℕ) → w ≡ Item o.first i → lies_at o i a ≡ true → o.shown ≡ Some (i, 2 * a + 1) → SeesItem v a x
  pub below : (q t b n p : ℕ) → v.stage ≡ Observing q t b n p → p ≢ q → n < t

-- A load leaves this view. Where it sees the position at the head in flight, the pass sees the whole history by it.
abbrev pub Sees : Bool → View → View → Type 0
Sees true v w = (history : List EntryMark) × SeesOthers v.held v.seen history × IsLawful number_priority v.object v.callers history × IfSome v.notes.head (λ h. IsInFlight v h history) × (w ≡ record v { seen = history; joint = None })
Sees false v w = w ≡ v
