-- Seats of the bag's table.
use Rattle.std.specs.Prelude.{◌≡◌, ℕ, List, [], ◌∷◌, ◌<◌, ◌≤◌, ◌^◌, slice_index, None}
use Rattle.atomic_table.specs.Seated.{TableId}
use Rattle.atomic_table.specs.Table.{rest}
use Rattle.atomic_table.specs.declared.shared.Seat.{Seat}
use Rattle.ho_base.specs.Marks.{Mark}
use Rattle.passes.specs.Numbers.{HasNumber}
use Rattle.bag_rule.specs.declared.view.View.{View}
use Rattle.bag_rule.specs.declared.view.Hand.TheVariants.{Kept}
use Rattle.bag_rule.specs.Words.{word_count}
use Rattle.bag_rule.specs.Views.{hand_at}
use Rattle.bag_rule.specs.Plays.{Sits}

abbrev pub BagSeat : Type 0
BagSeat = Seat (List Mark) View

-- the table has the words and slots of a bag for n callers
abbrev pub HasWords : TableId → ℕ → Type 0
HasWords table n = (table.words ≡ word_count n) × (table.slots ≡ n) × (n ≤ 64)

-- the seat is of this table
abbrev pub IsFor : TableId → BagSeat → Type 0
IsFor table seat = (seat.table_id ≡ table) × HasWords table seat.me.0.callers

abbrev pub IsSame : BagSeat → BagSeat → Type 0
IsSame a b = (b.table_id ≡ a.table_id) × (b.id ≡ a.id)

-- the seat may make an entry
abbrev pub MayEnter : View → Type 0
MayEnter v = (v.joint ≡ None) × HasNumber v.held v.caller × (slice_index v.made v.caller < 2 ^ 37)

-- the items of the list that was taken last
abbrev pub front_of : List (ℕ × List Mark) → List Mark
front_of [] = []
front_of (list ∷ lists) = list.1

-- the list c was taken last
abbrev pub HasFirst : Sits → ℕ → Type 0
HasFirst m c = m.1 ≡ (c, front_of m.1) ∷ rest m.1

-- and its items are those that the view keeps
abbrev pub InHand : Sits → ℕ → Type 0
InHand m c = HasFirst m c × (hand_at m.0 c ≡ Kept (front_of m.1))

-- the list that was taken last has these items now
abbrev pub with_front : Sits → ℕ → List Mark → Sits
with_front m c items = (m.0, (c, items) ∷ rest m.1)
