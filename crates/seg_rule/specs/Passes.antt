-- What contracts see of the pass of a queue's table, and how its fields mirror that.
use Rattle.std.specs.Prelude.{◌≡◌, ℕ, ◌%◌, ◌^◌, ◌<◌, ◌≤◌, true, [], Some, None, IfSome}
use Rattle.atomic_table.specs.Seated.{TableId}
use Rattle.atomic_table.specs.Table.{Me}
use Rattle.passes.specs.Numbers.{NumbersView}
use Rattle.passes.specs.Views.{PassView}
use Rattle.seg_rule.specs.declared.form.Form.{Form}
use Rattle.seg_rule.specs.declared.pass.Here.{Here}
use Rattle.seg_rule.specs.declared.view.View.{View}
use Rattle.seg_rule.specs.declared.view.Notes.{Notes}
use Rattle.seg_rule.specs.declared.view.Obstacle.{Obstacle}
use Rattle.seg_rule.specs.declared.view.Leave.{Leave}
use Rattle.seg_rule.specs.declared.view.Leave.TheVariants.{Measured, Refused, Released}
use Rattle.seg_rule.specs.declared.view.Hand.{Hand}
use Rattle.seg_rule.specs.declared.view.Hand.TheVariants.{Nothing, Reserved, Stored, Taking}
use Rattle.seg_rule.specs.declared.view.Stage.{Stage}
use Rattle.seg_rule.specs.declared.view.Stage.TheVariants.{Closed, Found, Preparing, Observing}
use Rattle.seg_rule.specs.Words.{words_of}
use Rattle.seg_rule.specs.Rule.{IsShape, object_of}
use Rattle.seg_layout.specs.Lengths.{places_of, longest_of}
use Rattle.seg_rule.specs.Loads.{has_turn}
use Rattle.passes.specs.Numbers.{IsSpare}
use Rattle.seg_rule.specs.Plays.{TellsJoin}
use Rattle.seg_rule.specs.Steps.{without, alone, joined, MayReserve, Reserves, MayTake, Takes, front_of}
use Rattle.seg_rule.specs.Tells.{place_count, slot_count}

-- the pass is of this table, and knows this
pub record QueueView : Type 0 where
  pub table : TableId
  pub view : View

-- what it has in common with the passes of all shared objects
abbrev pub pass_of : QueueView → PassView Obstacle
pass_of p = record {
  table = p.table;
  object = p.view.object;
  callers = p.view.callers;
  caller = p.view.caller;
  held = p.view.held;
  made = p.view.made;
  seen = p.view.seen;
  met = p.view.met;
}

-- the form of a queue with so much room, this first length and so many callers
abbrev pub form_of : ℕ → ℕ → ℕ → Form
form_of room first_len callers = record { room = room; first_len = first_len; callers = callers; places = places_of room first_len callers; slots = longest_of first_len }

-- what contracts see of a table
pub record QueueShape : Type 0 where
  pub table : TableId
  pub form : Form

abbrev pub IsOf : QueueShape → QueueView → Type 0
IsOf q p = (p.table ≡ q.table) × (p.view.object ≡ object_of q.form) × (p.view.callers ≡ q.form.callers)

-- the table has the words of its form
pub record IsTable (table : TableId) (key form : Form) : Type 0 where
  pub same : key ≡ form
  pub words : table.words ≡ words_of form.places form.slots
  pub shape : IsShape form
  pub slots : form.slots ≤ 65536
  pub places : form.places ≤ 33554431

-- What the fields say of the view.

-- the length that was read for a take
abbrev pub LengthIs : Leave → Here → Type 0
LengthIs (Measured n) h = h.length ≡ n
LengthIs _ h = Unit {0}

abbrev pub HandIs : Hand → Here → Type 0
HandIs Nothing h = Unit {0}
HandIs (Reserved p q i x) h = (p ≡ h.position) × (q ≡ h.place) × (i ≡ h.slot) × (x ≡ h.value)
HandIs (Stored p q i x) h = (p ≡ h.position) × (q ≡ h.place) × (i ≡ h.slot)
HandIs (Taking p q i leave) h = (p ≡ h.position) × (q ≡ h.place) × (i ≡ h.slot) × LengthIs leave h

-- the tail that was closed
abbrev pub StageIs : Stage → Here → Type 0
StageIs (Closed q t full) h = (q ≡ h.closed_place) × (t ≡ h.closed_at)
StageIs (Found q t p) h = (q ≡ h.closed_place) × (t ≡ h.closed_at)
StageIs (Preparing d q t n w) h = (t ≡ h.closed_at) × (t % n ≡ h.first_slot)
StageIs (Observing q t b n p) h = (q ≡ h.closed_place) × (t ≡ h.closed_at)
StageIs _ h = Unit {0}

-- the slot that is free for the tail, and the place and slot of the last number that was read; no position comes near its limit
pub record NotesAre (o : Notes) (h : Here) : Type 0 where
  pub head : IfSome o.head (λ y. y < 2 ^ 62)
  pub tail : IfSome o.tail (λ t. (t.position < 2 ^ 62) × (t.fits ≡ true → IfSome t.length (λ n. t.position % n ≡ h.tail_slot)))
  pub front : IfSome o.front (λ y. (y.place ≡ h.place) × (y.slot ≡ h.slot) × (y.position < 2 ^ 62))

pub record IsHere (v : View) (h : Here) : Type 0 where
  pub paid : v.paid ≡ h.paid
  pub turn : has_turn v.stage ≡ h.turn
  pub place : h.place < place_count v
  pub slot : h.slot < slot_count v
  pub tail_slot : h.tail_slot < slot_count v
  pub first_slot : h.first_slot < slot_count v
  pub closed_place : h.closed_place < place_count v
  pub position : h.position < 2 ^ 62
  pub closed_at : h.closed_at < 2 ^ 62
  pub length : h.length < 2 ^ 62
  pub hand : HandIs v.hand h
  pub stage : StageIs v.stage h
  pub notes : NotesAre v.notes h

pub record IsPass (me : Me ℕ View) (n : NumbersView) (h : Here) : Type 0 where
  pub none : me.1 ≡ []
  pub caller : me.0.caller ≡ n.caller
  pub callers : me.0.callers ≡ n.callers
  pub held : me.0.held ≡ n.held
  pub made : me.0.made ≡ n.made
  pub here : IsHere me.0 h

-- A split and a join of passes at rest: p before, and q after.

-- q goes on without the least number that p can spare, and other holds that number alone
pub record SplitsPass (p q other : QueueView) : Type 0 where
  pub kept : q ≡ record p { view = without p.view other.view.caller }
  pub given : other ≡ record p { view = alone p.view other.view.caller }
  pub spare : IsSpare p.view.held p.view.caller other.view.caller
  pub least : (c : ℕ) → c < other.view.caller → ¬ IsSpare p.view.held p.view.caller c

-- q has what both had, and is told how what it has seen goes on from what either had seen
pub record JoinsPass (p other q : QueueView) : Type 0 where
  pub joined_as : q ≡ record p { view = record (joined p.view other.view) { joint = None } }
  pub tells : TellsJoin p.view other.view

-- Exchanges by the slot whose number was read last.

abbrev pub MayReserveAt : ℕ → View → ℕ → ℕ → Type 0
MayReserveAt room v q t = (n : ℕ) × MayReserve room v q t n

-- in the slot of the position, by the length that was read
abbrev pub ReservesAt : View → ℕ → ℕ → ℕ → View → Type 0
ReservesAt v q t x w = (i : ℕ) × Reserves v q t i x w

abbrev pub MayTakeAt : View → ℕ → ℕ → Type 0
MayTakeAt v h y = (q i : ℕ) × MayTake v h q i y

abbrev pub TakesAt : View → ℕ → ℕ → View → Type 0
TakesAt v h y w = (q i : ℕ) × (v.notes.front ≡ Some (front_of h q i y)) × Takes v h q i y w

-- Which step the hand waits for.

abbrev pub IsReserved : Hand → Type 0
IsReserved (Reserved p q i x) = Unit {0}
IsReserved _ = ⊥

-- of a take: it has leave to release its slot, and read the length of its place
abbrev pub IsMeasured : Hand → Type 0
IsMeasured (Taking p q i (Measured n)) = Unit {0}
IsMeasured _ = ⊥

-- it has released its slot, or has no leave to
abbrev pub IsOver : Leave → Type 0
IsOver Refused = Unit {0}
IsOver Released = Unit {0}
IsOver _ = ⊥

abbrev pub IsTaken : Hand → Type 0
IsTaken (Taking p q i leave) = IsOver leave
IsTaken _ = ⊥

abbrev pub IsClosed : Stage → Type 0
IsClosed (Closed q t full) = Unit {0}
IsClosed _ = ⊥

abbrev pub IsStored : Hand → Type 0
IsStored (Stored p q i x) = Unit {0}
IsStored _ = ⊥
