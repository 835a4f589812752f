-- The queue: first in, first out, with room for a number of items.
use Rattle.std.specs.Prelude.{ℕ, List, [], ◌∷◌, ◌++◌, length, map, Option, Some, None, Bool, nat_lt, if◌then◌else◌, drop, slice_index_or}
use Rattle.ho_base.specs.Marks.{Mark, number_of}
use Rattle.ho_model.specs.Entries.{CallMark, ReplyMark, Enq, Deq, Peek, Count, Snap, Done, Full, Item, Empty, Counted, Numbers}

abbrev pub Outcome : Type 0
Outcome = ReplyMark × List Mark

abbrev pub enqueued : ℕ → List Mark → Mark → Outcome
enqueued room items item = if nat_lt (length items) room then (Done, items ++ item ∷ []) else (Full, items)

-- whether there is an item, and the first of those that there are
abbrev pub has_item : List Mark → Bool
has_item items = nat_lt 0 (length items)

abbrev pub first_item : List Mark → Mark
first_item items = slice_index_or items 0 []

abbrev pub dequeued : List Mark → Outcome
dequeued items = if has_item items then (Item (first_item items), drop 1 items) else (Empty, items)

abbrev pub peeked : List Mark → Outcome
peeked items = if has_item items then (Item (first_item items), items) else (Empty, items)

-- the answer to a call and the items then, or None for a call that a queue does not have
abbrev pub queue_answer : ℕ → List Mark → CallMark → Option Outcome
queue_answer room items (Enq item) = Some (enqueued room items item)
queue_answer room items Deq = Some (dequeued items)
queue_answer room items Peek = Some (peeked items)
queue_answer room items Count = Some (Counted (length items), items)
queue_answer room items Snap = Some (Numbers (map number_of items), items)
queue_answer room items _ = None
