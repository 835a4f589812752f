-- What contracts see of the three stores.
use Rattle.std.specs.Prelude.{ℕ, List, [], ◌∷◌, length, replicate, Option, Some, None, Bool, false, nat_le, is_none}
use Rattle.ho_base.specs.Marks.{Mark}
use Rattle.ho_model.specs.declared.objects.Store.{Store}
use Rattle.ho_model.specs.declared.objects.Store.TheVariants as store
use Rattle.ho_model.specs.Bag.{Lists}
use Rattle.blocking_core.specs.declared.line.Line.{Line}
use Rattle.blocking_core.specs.declared.line.Line.TheVariants.{Ring, List as Growing}
use Rattle.blocking_core.specs.declared.stored.Stored.{Stored}
use Rattle.blocking_core.specs.declared.stored.Stored.TheVariants.{Fifo, Lifo, Bag}

module _ {T : Type 0} where
  abbrev pub line_items : Line T → List Mark
  line_items (Ring ring) = ring.items
  line_items (Growing list) = list

  abbrev pub line_bound : Line T → Option ℕ
  line_bound (Ring ring) = Some ring.capacity
  line_bound (Growing list) = None

  abbrev pub is_line_full : Line T → Bool
  is_line_full (Ring ring) = nat_le ring.capacity (length ring.items)
  is_line_full (Growing list) = false

  -- one list for all callers is the first of the 64
  abbrev pub lists_in : Stored T → Lists
  lists_in (Fifo line) = line_items line ∷ replicate 63 []
  lists_in (Lifo line) = line_items line ∷ replicate 63 []
  lists_in (Bag lists bound) = lists

  abbrev pub store_of : Stored T → Store
  store_of (Fifo line) = store.Fifo
  store_of (Lifo line) = store.Lifo
  store_of (Bag lists bound) = store.Bag

  abbrev pub bound_of : Stored T → Option ℕ
  bound_of (Fifo line) = line_bound line
  bound_of (Lifo line) = line_bound line
  bound_of (Bag lists bound) = bound
