-- The blocking collection: a store with a bound or none, which may be complete for adding.
use Rattle.std.specs.Prelude.{ℕ, position, Option, Some, None, unwrap_or, nat_le, if◌then◌else◌, Bool, true, false, ◌&&◌, ◌==◌}
use Rattle.ho_base.specs.Marks.{Mark}
use Rattle.ho_model.specs.declared.objects.Store.{Store}
use Rattle.ho_model.specs.declared.objects.Store.TheVariants.{Fifo, Lifo, Bag}
use Rattle.ho_model.specs.Entries.{CallMark, ReplyMark, Add, Take, Count, Snap, Completed, CompleteAdding, AddingCompleted, Done, Full, Closed, Item, Empty, Ended, Flag, Counted, Numbers}
use Rattle.ho_model.specs.Queue.{has_item, first_item}
use Rattle.ho_model.specs.Bag.{Lists, empty_lists, list_of, last_item, with_last, without_first, without_last, item_count, all_numbers}

-- a list for each caller, of which Fifo and Lifo use the first for all callers; and whether the
-- collection is complete for adding
pub record Blocking : Type 0 where
  pub lists : Lists
  pub closed : Bool

abbrev pub empty_blocking : Blocking
empty_blocking = record { lists = empty_lists; closed = false }

abbrev pub Outcome : Type 0
Outcome = ReplyMark × Blocking

abbrev pub list_for : Store → ℕ → ℕ
list_for Bag caller = caller
list_for _ caller = 0

abbrev pub at_bound : Option ℕ → Lists → Bool
at_bound None lists = false
at_bound (Some bound) lists = nat_le bound (item_count lists)

abbrev pub added : Store → Option ℕ → Blocking → ℕ → Mark → Outcome
added store bound s caller x =
    if s.closed then (Closed, s)
    else if at_bound bound s.lists then (Full, s)
    else (Done, record s { lists = with_last s.lists (list_for store caller) x })

abbrev pub first_of : Blocking → ℕ → Outcome
first_of s place = (Item (first_item (list_of s.lists place)), record s { lists = without_first s.lists place })

abbrev pub last_of : Blocking → ℕ → Outcome
last_of s place = (Item (last_item (list_of s.lists place)), record s { lists = without_last s.lists place })

-- an item of a collection that has one
abbrev pub some_item : Store → Blocking → ℕ → Outcome
some_item Fifo s caller = first_of s 0
some_item Lifo s caller = last_of s 0
some_item Bag s caller =
    if has_item (list_of s.lists caller) then last_of s caller
    else first_of s (unwrap_or (position has_item s.lists) 0)

abbrev pub taken : Store → Blocking → ℕ → Outcome
taken store s caller =
    if item_count s.lists == 0 then (if s.closed then (Ended, s) else (Empty, s)) else some_item store s caller

-- completed holds where the flag is set and there is no item
abbrev pub is_completed : Blocking → Bool
is_completed s = s.closed && (item_count s.lists == 0)

-- the answer to a call and the collection then, or None for a call that it does not have
abbrev pub blocking_answer : Store → Option ℕ → Blocking → ℕ → CallMark → Option Outcome
blocking_answer store bound s caller (Add x) = Some (added store bound s caller x)
blocking_answer store bound s caller Take = Some (taken store s caller)
blocking_answer store bound s caller CompleteAdding = Some (Done, record s { closed = true })
blocking_answer store bound s caller AddingCompleted = Some (Flag s.closed, s)
blocking_answer store bound s caller Completed = Some (Flag (is_completed s), s)
blocking_answer store bound s caller Count = Some (Counted (item_count s.lists), s)
blocking_answer store bound s caller Snap = Some (Numbers (all_numbers s.lists), s)
blocking_answer store bound s caller _ = None
