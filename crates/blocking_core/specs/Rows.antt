-- What contracts say of the rows of a blocking collection.
use Rattle.std.specs.Prelude.{◌≡◌, ℕ, Option, Bool, true, false, is_none}
use Rattle.ho_model.specs.declared.objects.Store.{Store}
use Rattle.ho_model.specs.declared.objects.Store.TheVariants as store
use Rattle.ho_base.specs.Marks.{Mark}
use Rattle.ho_model.specs.declared.marks.CallMark.{CallMark}
use Rattle.ho_model.specs.declared.marks.CallMark.TheVariants.{Add, Snap}
use Rattle.ho_model.specs.declared.marks.ReplyMark.TheVariants.{Item}
use Rattle.ho_model.specs.Bag.{Lists}
use Rattle.ho_model.specs.Blocking as blocking
use Rattle.blocking_core.specs.declared.stored.Stored.{Stored}
use Rattle.blocking_core.specs.declared.rows.Rows.{Rows}
use Rattle.blocking_core.specs.Stores.{lists_in, store_of, bound_of}

-- an add may want memory with a list for each caller, and where there is no bound
abbrev pub adds_may_want : Store → Option ℕ → Bool
adds_may_want store.Bag bound = true
adds_may_want _ bound = is_none bound

-- the calls that may want memory
abbrev pub wants_memory : Store → Option ℕ → CallMark → Bool
wants_memory store bound (Add item) = adds_may_want store bound
wants_memory store bound Snap = true
wants_memory store bound _ = false

-- a take of item x, whether or not adding has ended
abbrev pub IsTake : Store → Lists → ℕ → Mark → Lists → Type 0
IsTake store old caller x new =
    (closed : Bool) → blocking.some_item store (record { lists = old; closed = closed }) caller ≡ (Item x, record { lists = new; closed = closed })

module _ {T : Type 0} where
  -- no call changes the store or the bound
  abbrev pub IsSameKind : Stored T → Stored T → Type 0
  IsSameKind old new = (store_of new ≡ store_of old) × (bound_of new ≡ bound_of old)

  abbrev pub blocking_of : Rows T → blocking.Blocking
  blocking_of r = record { lists = lists_in r.stored; closed = r.closed }
