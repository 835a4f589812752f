-- Seats of the turn lock's table.
use Rattle.std.specs.Prelude.{◌≡◌}
use Rattle.atomic_table.specs.Seated.{TableId}
use Rattle.atomic_table.specs.declared.shared.Seat.{Seat}
use Rattle.turn_lock.specs.declared.view.View.{View}

-- the table has the words of a turn lock, and one slot
abbrev pub HasWords : TableId → Type 0
HasWords table = (table.words ≡ 18) × (table.slots ≡ 1)

module _ {S : Type 0} where
  -- the seat is of this table
  abbrev pub IsFor : TableId → Seat S View → Type 0
  IsFor table seat = (seat.table_id ≡ table) × HasWords table

  abbrev pub IsSame : Seat S View → Seat S View → Type 0
  IsSame a b = (b.table_id ≡ a.table_id) × (b.id ≡ a.id)
