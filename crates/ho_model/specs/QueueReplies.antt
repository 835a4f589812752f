-- What a queue has after a legal history, and what it replies, by the items enqueued and the counts
-- of enqueues and takes alone.
use Rattle.std.specs.Prelude.{◌≡◌, ℕ, ◌+◌, ◌<◌, ◌≤◌, List, [], ◌∷◌, ◌++◌, length, map, drop, slice_get, Some}
use Rattle.ho_base.specs.Marks.{Mark, number_of}
use Rattle.ho_model.specs.declared.objects.Object.TheVariants as object
use Rattle.ho_model.specs.Entries.{CallMark, ReplyMark, EntryMark, Enq, Deq, Peek, Count, Snap, Done, Full, Item, Empty, Counted, Numbers}
use Rattle.ho_model.specs.Objects.{QueueState, most_callers}
use Rattle.ho_model.specs.Tallies.{Tally, tally_next, tally_of}
use Rattle.ho_model.specs.Enqueues.{enqueued_in, values_of}
use Rattle.ho_model.specs.Histories.{state_after}

-- the items that were enqueued and not taken: takes go by the order of enqueues
abbrev pub items_left : List EntryMark → List Mark
items_left history = drop (tally_of history).taken (values_of history)

-- a queue with so much room allows the history, and has just these items after it
abbrev pub LeavesItems : (Mark → ℕ) → ℕ → ℕ → List EntryMark → Type 0
LeavesItems priority room first_len history = state_after priority (object.Queue room first_len) history ≡ Some (QueueState (items_left history))

-- the counts go with the items enqueued: no more were taken, and no more are left than there is room for
pub record AreCounts (room : ℕ) (values : List Mark) (t : Tally) : Type 0 where
  pub counted : length values ≡ t.enqueued
  pub order : t.taken ≤ t.enqueued
  pub within : t.enqueued ≤ t.taken + room

-- the reply to an enqueue
abbrev pub IsEnqueueReply : ℕ → Tally → ReplyMark → Type 0
IsEnqueueReply room t Done = t.enqueued < t.taken + room
IsEnqueueReply room t Full = t.enqueued ≡ t.taken + room
IsEnqueueReply room t _ = ⊥

-- to a dequeue and to a peek: the first item that was not taken
abbrev pub IsFirstReply : List Mark → Tally → ReplyMark → Type 0
IsFirstReply values t (Item item) = slice_get values t.taken ≡ Some item
IsFirstReply values t Empty = t.taken ≡ t.enqueued
IsFirstReply values t _ = ⊥

abbrev pub IsCountReply : Tally → ReplyMark → Type 0
IsCountReply t (Counted count) = count + t.taken ≡ t.enqueued
IsCountReply t _ = ⊥

abbrev pub IsSnapReply : List Mark → Tally → ReplyMark → Type 0
IsSnapReply values t (Numbers numbers) = numbers ≡ map number_of (drop t.taken values)
IsSnapReply values t _ = ⊥

-- a queue with so much room replies so to this call
abbrev pub IsQueueReply : ℕ → List Mark → Tally → CallMark → ReplyMark → Type 0
IsQueueReply room values t (Enq item) reply = IsEnqueueReply room t reply
IsQueueReply room values t Deq reply = IsFirstReply values t reply
IsQueueReply room values t Peek reply = IsFirstReply values t reply
IsQueueReply room values t Count reply = IsCountReply t reply
IsQueueReply room values t Snap reply = IsSnapReply values t reply
IsQueueReply room values t _ reply = ⊥

-- after these items and counts each entry, in turn, is of a caller that a queue can have, and has the
-- queue's reply
abbrev pub AllReply : ℕ → List Mark → Tally → List EntryMark → Type 0
AllReply room values t [] = Unit {0}
AllReply room values t (e ∷ es) =
    (e.caller < most_callers) × IsQueueReply room values t e.call e.reply × AllReply room (values ++ enqueued_in e.call e.reply) (tally_next t e.call e.reply) es
