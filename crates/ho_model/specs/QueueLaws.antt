-- The laws of queues, each over all legal histories.
use Rattle.std.specs.Prelude.{◌≡◌, ℕ, ◌+◌, ◌<◌, ◌↔◌, List, [], ◌∷◌, ◌++◌, length, map, slice_get, Some}
use Rattle.ho_base.specs.Marks.{Mark, number_of}
use Rattle.ho_model.specs.declared.objects.Object.TheVariants.{Queue}
use Rattle.ho_base.specs.declared.receipts.Receipt.TheVariants.{Enqueued, Dequeued, Peeked, Looked}
use Rattle.ho_model.specs.Entries.{CallMark, ReplyMark, EntryMark, entry, Enq, Deq, Peek, Count, Snap, Done, Full, Item, Empty, Counted, Numbers}
use Rattle.ho_model.specs.Objects.{QueueState, most_callers}
use Rattle.ho_model.specs.Tallies.{no_tally, tally_of}
use Rattle.ho_model.specs.Enqueues.{values_of}
use Rattle.ho_model.specs.Histories.{state_after, IsLegal}
use Rattle.ho_model.specs.QueueReceipts.{IsQueueReceipt}
use Rattle.ho_model.specs.QueueReplies.{items_left, LeavesItems, AreCounts, IsQueueReply, AllReply}

-- a queue has the items that were enqueued and not taken
abbrev pub QueuesLeaveItems : Type 0
QueuesLeaveItems = (priority : Mark → ℕ) (room first_len : ℕ) (history : List EntryMark) → IsLegal priority (Queue room first_len) history → LeavesItems priority room first_len history

-- no more items were taken than enqueued, and never are more left than there is room for
abbrev pub QueuesCount : Type 0
QueuesCount = (priority : Mark → ℕ) (room first_len : ℕ) (history : List EntryMark) → IsLegal priority (Queue room first_len) history → AreCounts room (values_of history) (tally_of history)

-- the items that a queue has and those that were taken are those enqueued
abbrev pub QueuesBalance : Type 0
QueuesBalance =
    (priority : Mark → ℕ) (room first_len : ℕ) (history : List EntryMark) (items : List Mark) → state_after priority (Queue room first_len) history ≡ Some (QueueState items) →
    length items + (tally_of history).taken ≡ (tally_of history).enqueued

-- a queue that has allowed the entries before allows one more exactly where it has the queue's reply
abbrev pub QueuesReply : Type 0
QueuesReply =
    (priority : Mark → ℕ) (room first_len : ℕ) (before : List EntryMark) (e : EntryMark) → IsLegal priority (Queue room first_len) before → e.caller < most_callers →
    IsLegal priority (Queue room first_len) (before ++ e ∷ []) ↔ IsQueueReply room (values_of before) (tally_of before) e.call e.reply

-- so each entry of a legal history has it
abbrev pub EntriesReply : Type 0
EntriesReply =
    (priority : Mark → ℕ) (room first_len : ℕ) (before : List EntryMark) (e : EntryMark) (later : List EntryMark) → IsLegal priority (Queue room first_len) (before ++ e ∷ later) →
    IsQueueReply room (values_of before) (tally_of before) e.call e.reply

-- and a history is legal exactly where they all have it
abbrev pub LegalByReplies : Type 0
LegalByReplies = (priority : Mark → ℕ) (room first_len : ℕ) (history : List EntryMark) → IsLegal priority (Queue room first_len) history ↔ AllReply room [] no_tally history

-- The reply to each call, by name. A legal history goes on by an entry of the caller c: it is legal
-- with that entry, and leaves the items that are then enqueued and not taken
abbrev pub GoesOn : (Mark → ℕ) → ℕ → ℕ → List EntryMark → CallMark → ReplyMark → Type 0
GoesOn priority room first_len history call reply =
    (c : ℕ) → c < most_callers → IsLegal priority (Queue room first_len) history → LeavesItems priority room first_len (history ++ entry c call reply ∷ [])

-- an enqueue is done while fewer items are in the queue than there is room for, and else full
abbrev pub EnqueueNext : Type 0
EnqueueNext = (priority : Mark → ℕ) (room first_len : ℕ) (history : List EntryMark) (item : Mark) → (tally_of history).enqueued < (tally_of history).taken + room → GoesOn priority room first_len history (Enq item) Done

abbrev pub FullNext : Type 0
FullNext = (priority : Mark → ℕ) (room first_len : ℕ) (history : List EntryMark) (item : Mark) → (tally_of history).enqueued ≡ (tally_of history).taken + room → GoesOn priority room first_len history (Enq item) Full

-- a take gives the item whose place among those enqueued is the count of those taken, and a peek shows it
abbrev pub TakeNext : Type 0
TakeNext = (priority : Mark → ℕ) (room first_len : ℕ) (history : List EntryMark) (item : Mark) → slice_get (values_of history) (tally_of history).taken ≡ Some item → GoesOn priority room first_len history Deq (Item item)

abbrev pub PeekNext : Type 0
PeekNext = (priority : Mark → ℕ) (room first_len : ℕ) (history : List EntryMark) (item : Mark) → slice_get (values_of history) (tally_of history).taken ≡ Some item → GoesOn priority room first_len history Peek (Item item)

-- both find the queue empty where all that was enqueued is taken
abbrev pub EmptyNext : Type 0
EmptyNext = (priority : Mark → ℕ) (room first_len : ℕ) (history : List EntryMark) → (tally_of history).taken ≡ (tally_of history).enqueued → GoesOn priority room first_len history Deq Empty

abbrev pub PeekEmptyNext : Type 0
PeekEmptyNext = (priority : Mark → ℕ) (room first_len : ℕ) (history : List EntryMark) → (tally_of history).taken ≡ (tally_of history).enqueued → GoesOn priority room first_len history Peek Empty

-- a count tells how many are not taken, and a snapshot their numbers
abbrev pub CountNext : Type 0
CountNext = (priority : Mark → ℕ) (room first_len : ℕ) (history : List EntryMark) (count : ℕ) → count + (tally_of history).taken ≡ (tally_of history).enqueued → GoesOn priority room first_len history Count (Counted count)

abbrev pub SnapNext : Type 0
SnapNext = (priority : Mark → ℕ) (room first_len : ℕ) (history : List EntryMark) (numbers : List ℕ) → numbers ≡ map number_of (items_left history) → GoesOn priority room first_len history Snap (Numbers numbers)

-- The position on the receipt of an enqueue is the place of its item among the items enqueued, whatever
-- came later; and that on the receipt of a take or of a peek is the place of the item that it gave
abbrev pub EnqueuesFindItems : Type 0
EnqueuesFindItems =
    (priority : Mark → ℕ) (room first_len : ℕ) (before later : List EntryMark) (c position segment : ℕ) (item : Mark) → IsLegal priority (Queue room first_len) (before ++ entry c (Enq item) Done ∷ later) →
    IsQueueReceipt first_len (Enq item) Done (tally_of before) (Enqueued position segment) → slice_get (values_of (before ++ entry c (Enq item) Done ∷ later)) position ≡ Some item

abbrev pub TakesFindItems : Type 0
TakesFindItems =
    (priority : Mark → ℕ) (room first_len : ℕ) (before later : List EntryMark) (c position : ℕ) (item : Mark) → IsLegal priority (Queue room first_len) (before ++ entry c Deq (Item item) ∷ later) →
    IsQueueReceipt first_len Deq (Item item) (tally_of before) (Dequeued position) → slice_get (values_of (before ++ entry c Deq (Item item) ∷ later)) position ≡ Some item

abbrev pub PeeksFindItems : Type 0
PeeksFindItems =
    (priority : Mark → ℕ) (room first_len : ℕ) (before later : List EntryMark) (c position : ℕ) (item : Mark) → IsLegal priority (Queue room first_len) (before ++ entry c Peek (Item item) ∷ later) →
    IsQueueReceipt first_len Peek (Item item) (tally_of before) (Peeked position) → slice_get (values_of (before ++ entry c Peek (Item item) ∷ later)) position ≡ Some item

-- the receipt of a count tells it: from the head to the tail; and that of a full queue tells the room
abbrev pub CountsFindHeads : Type 0
CountsFindHeads =
    (priority : Mark → ℕ) (room first_len : ℕ) (before later : List EntryMark) (c count head tail : ℕ) → IsLegal priority (Queue room first_len) (before ++ entry c Count (Counted count) ∷ later) →
    IsQueueReceipt first_len Count (Counted count) (tally_of before) (Looked head tail) → tail ≡ head + count

abbrev pub FullsFindHeads : Type 0
FullsFindHeads =
    (priority : Mark → ℕ) (room first_len : ℕ) (before later : List EntryMark) (c head tail : ℕ) (item : Mark) → IsLegal priority (Queue room first_len) (before ++ entry c (Enq item) Full ∷ later) →
    IsQueueReceipt first_len (Enq item) Full (tally_of before) (Looked head tail) → tail ≡ head + room

-- that of a take or of a peek that found nothing has the two equal, and that of a snapshot tells how many
-- items it shows
abbrev pub EmptiesFindHeads : Type 0
EmptiesFindHeads =
    (priority : Mark → ℕ) (room first_len : ℕ) (before later : List EntryMark) (c head tail : ℕ) (call : CallMark) → IsLegal priority (Queue room first_len) (before ++ entry c call Empty ∷ later) →
    IsQueueReceipt first_len call Empty (tally_of before) (Looked head tail) → tail ≡ head

abbrev pub SnapsFindHeads : Type 0
SnapsFindHeads =
    (priority : Mark → ℕ) (room first_len : ℕ) (before later : List EntryMark) (c head tail : ℕ) (numbers : List ℕ) → IsLegal priority (Queue room first_len) (before ++ entry c Snap (Numbers numbers) ∷ later) →
    IsQueueReceipt first_len Snap (Numbers numbers) (tally_of before) (Looked head tail) → tail ≡ head + length numbers
