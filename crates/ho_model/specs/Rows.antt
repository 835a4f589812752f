-- Worked histories of each object.
use Rattle.std.specs.Prelude.{ℕ, List, [], ◌∷◌, Bool, true, false, is_some, map, replicate, slice_set}
use Rattle.ho_base.specs.Marks.{Mark, number_priority}
use Rattle.ho_model.specs.declared.objects.Mode.{Mode}
use Rattle.ho_model.specs.declared.objects.Object.{Object}
use Rattle.ho_model.specs.declared.objects.Object.TheVariants as object
use Rattle.ho_model.specs.Entries.{CallMark, ReplyMark, EntryMark, entry, Enq, Deq, Peek, Count, Snap, Add, Take, Write, Read, BeginWrite, BeginRead, BeginLookWrite, BeginLookRead, Poll, Cancel, CompleteWith, Completed, CompleteAdding, AddingCompleted, Done, Dropped, Full, Refused, Item, ItemFrom, Shown, Empty, Ended, Closed, ClosedWith, Counted, Numbers, Waiting, Ready, Faulted, Cancelled, CancelledWrite, Unknown, Flag}
use Rattle.ho_model.specs.Bag.{empty_lists, most_in_list}
use Rattle.ho_model.specs.Objects.{State, BagState}
use Rattle.ho_model.specs.Written.{mark_of}
use Rattle.ho_model.specs.Histories.{fold_from, state_after}

abbrev pub n : ℕ → Mark
n = mark_of

abbrev pub accepts : Object → List EntryMark → Bool
accepts o history = is_some (state_after number_priority o history)

-- entries that follow a state
abbrev pub accepts_after : State → Object → List EntryMark → Bool
accepts_after s o history = is_some (fold_from number_priority o s history)

-- calls with their replies, all by caller 0
abbrev pub Row : Type 0
Row = List (CallMark × ReplyMark)

abbrev pub by_0 : CallMark × ReplyMark → EntryMark
by_0 p = entry 0 p.0 p.1

abbrev pub is_legal : Object → Row → Bool
is_legal o row = accepts o (map by_0 row)

abbrev pub two : Mode → Object
two mode = object.Bounded 2 mode

-- a write to a full channel in each mode
abbrev pub full_wait_row : Row
full_wait_row = (Write (n 1), Done) ∷ (Write (n 2), Done) ∷ (Write (n 3), Full) ∷ (Read, Item (n 1)) ∷ (Read, Item (n 2)) ∷ []

abbrev pub full_drop_row : ℕ → ℕ → ℕ → Row
full_drop_row gone first second = (Write (n 1), Done) ∷ (Write (n 2), Done) ∷ (Write (n 3), Dropped (n gone)) ∷ (Read, Item (n first)) ∷ (Read, Item (n second)) ∷ []

-- a begin of a write to a full channel that drops waits for nothing, and counts as one of its caller's
abbrev pub begin_drop_row : ℕ → ℕ → ℕ → Row
begin_drop_row gone first second = (Write (n 1), Done) ∷ (Write (n 2), Done) ∷ (BeginWrite (n 3), Dropped (n gone)) ∷ (BeginLookWrite, Ready true) ∷ (BeginRead, Item (n first)) ∷ (BeginRead, Item (n second)) ∷ (BeginRead, Waiting 4) ∷ []

-- a completion while a write waits
abbrev pub complete_row : Row
complete_row = (Write (n 1), Done) ∷ (BeginWrite (n 2), Waiting 0) ∷ (CompleteWith 9, Flag true) ∷ (CompleteWith 0, Flag false) ∷ (Poll 0, Refused 9 (n 2)) ∷ (Completed, Flag false) ∷ (Read, Item (n 1)) ∷ (Completed, Flag true) ∷ (Read, ClosedWith 9) ∷ []

-- a completion with a fault while a look waits
abbrev pub fault_row : Row
fault_row = (BeginLookRead, Waiting 0) ∷ (CompleteWith 9, Flag true) ∷ (Poll 0, Faulted 9) ∷ (BeginLookRead, Faulted 9) ∷ (BeginLookWrite, Faulted 9) ∷ (BeginRead, ClosedWith 9) ∷ (Write (n 4), Refused 9 (n 4)) ∷ []

-- completed is not told while an item stands
abbrev pub early_completed_row : Row
early_completed_row = (Write (n 1), Done) ∷ (CompleteWith 0, Flag true) ∷ (Completed, Flag true) ∷ []

-- a cancel before the hand-over and one after it
abbrev pub cancel_row : Row
cancel_row = (BeginRead, Waiting 0) ∷ (Cancel 0, Cancelled) ∷ (Write (n 5), Done) ∷ (Count, Counted 1) ∷ []

abbrev pub late_cancel_row : Row
late_cancel_row = (BeginRead, Waiting 0) ∷ (Write (n 5), Done) ∷ (Cancel 0, Item (n 5)) ∷ (Count, Counted 0) ∷ (Cancel 0, Unknown) ∷ []

abbrev pub lost_item_row : Row
lost_item_row = (BeginRead, Waiting 0) ∷ (Write (n 5), Done) ∷ (Cancel 0, Cancelled) ∷ []

abbrev pub cancelled_write_row : Row
cancelled_write_row = (Write (n 1), Done) ∷ (BeginWrite (n 2), Waiting 0) ∷ (Cancel 0, CancelledWrite (n 2)) ∷ (Read, Item (n 1)) ∷ (Read, Empty) ∷ []

-- of equal priorities the item that was written first leaves first
abbrev pub priority_row : Row
priority_row = (Write (n 2001), Done) ∷ (Write (n 1003), Done) ∷ (Write (n 1002), Done) ∷ (Peek, Shown 1003) ∷ (Read, Item (n 1003)) ∷ (Read, Item (n 1002)) ∷ (Read, Item (n 2001)) ∷ []

-- an item of greater priority does not leave first
abbrev pub greater_first_row : Row
greater_first_row = (Write (n 2001), Done) ∷ (Write (n 1003), Done) ∷ (Read, Item (n 2001)) ∷ []

-- looks for an item and for room
abbrev pub look_row : Row
look_row = (BeginLookRead, Waiting 0) ∷ (Write (n 3), Done) ∷ (Poll 0, Ready true) ∷ (BeginLookWrite, Waiting 1) ∷ (Read, Item (n 3)) ∷ (Poll 1, Ready true) ∷ (CompleteWith 0, Flag true) ∷ (BeginLookRead, Ready false) ∷ (BeginLookWrite, Ready false) ∷ []

-- of two reads that wait the older is served
abbrev pub two_readers_row : List EntryMark
two_readers_row = entry 0 BeginRead (Waiting 0) ∷ entry 1 BeginRead (Waiting 0) ∷ entry 0 (Write (n 5)) Done ∷ entry 1 (Poll 0) (Waiting 0) ∷ entry 0 (Poll 0) (Item (n 5)) ∷ []

abbrev pub newest_reader_row : List EntryMark
newest_reader_row = entry 0 BeginRead (Waiting 0) ∷ entry 1 BeginRead (Waiting 0) ∷ entry 0 (Write (n 5)) Done ∷ entry 1 (Poll 0) (Item (n 5)) ∷ []

-- a read lets the write that waits in
abbrev pub let_in_row : Row
let_in_row = (Write (n 1), Done) ∷ (BeginWrite (n 2), Waiting 0) ∷ (Read, Item (n 1)) ∷ (Poll 0, Done) ∷ (Count, Counted 1) ∷ []

-- of two writes that wait the older is let in
abbrev pub two_writers_row : Row
two_writers_row = (Write (n 1), Done) ∷ (BeginWrite (n 2), Waiting 0) ∷ (BeginWrite (n 3), Waiting 1) ∷ (Read, Item (n 1)) ∷ (Poll 1, Waiting 1) ∷ (Poll 0, Done) ∷ (Read, Item (n 2)) ∷ (Poll 1, Done) ∷ (Read, Item (n 3)) ∷ (Read, Empty) ∷ []

abbrev pub newest_writer_row : Row
newest_writer_row = (Write (n 1), Done) ∷ (BeginWrite (n 2), Waiting 0) ∷ (BeginWrite (n 3), Waiting 1) ∷ (Read, Item (n 1)) ∷ (Poll 1, Done) ∷ []

abbrev pub queue_row : Row
queue_row = (Enq (n 7), Done) ∷ (Enq (n 8), Done) ∷ (Enq (n 9), Full) ∷ (Snap, Numbers (7 ∷ 8 ∷ [])) ∷ (Peek, Item (n 7)) ∷ (Deq, Item (n 7)) ∷ (Enq (n 9), Done) ∷ (Count, Counted 2) ∷ []

-- the item that was enqueued last does not leave first
abbrev pub last_first_row : Row
last_first_row = (Enq (n 7), Done) ∷ (Enq (n 8), Done) ∷ (Deq, Item (n 8)) ∷ []

abbrev pub blocking_row : Row
blocking_row = (Add (n 4), Done) ∷ (Add (n 5), Full) ∷ (CompleteAdding, Done) ∷ (CompleteAdding, Done) ∷ (Add (n 6), Closed) ∷ (Completed, Flag false) ∷ (Take, Item (n 4)) ∷ (Take, Ended) ∷ (Completed, Flag true) ∷ []

-- a blocking collection whose last item leaves first
abbrev pub lifo_row : Row
lifo_row = (Add (n 4), Done) ∷ (Add (n 5), Done) ∷ (Count, Counted 2) ∷ (Snap, Numbers (4 ∷ 5 ∷ [])) ∷ (Take, Item (n 5)) ∷ (Take, Item (n 4)) ∷ (Take, Empty) ∷ []

-- complete for adding is told before completed
abbrev pub adding_row : Row
adding_row = (Add (n 4), Done) ∷ (AddingCompleted, Flag false) ∷ (CompleteAdding, Done) ∷ (AddingCompleted, Flag true) ∷ (Completed, Flag false) ∷ (Take, Item (n 4)) ∷ (Completed, Flag true) ∷ []

-- a blocking collection with a list for each caller, and room for three items: a caller takes its own
-- last item, and else the first of the least caller that has one
abbrev pub store_row : List EntryMark
store_row = entry 1 (Add (n 3)) Done ∷ entry 0 (Add (n 1)) Done ∷ entry 0 (Add (n 2)) Done ∷ entry 2 (Add (n 4)) Full ∷ entry 2 Snap (Numbers (1 ∷ 2 ∷ 3 ∷ [])) ∷ entry 0 Take (Item (n 2)) ∷ entry 2 Take (Item (n 1)) ∷ entry 2 Take (Item (n 3)) ∷ entry 2 Take Empty ∷ []

-- a take from the greater caller's list while the lesser has an item
abbrev pub greater_list_row : List EntryMark
greater_list_row = entry 1 (Add (n 3)) Done ∷ entry 0 (Add (n 1)) Done ∷ entry 2 Take (Item (n 3)) ∷ []

abbrev pub bag_row : List EntryMark
bag_row = entry 0 (Add (n 1)) Done ∷ entry 0 (Add (n 2)) Done ∷ entry 1 Take (ItemFrom (n 1) 0) ∷ entry 0 Take (ItemFrom (n 2) 0) ∷ entry 0 Take Empty ∷ entry 1 Take Empty ∷ entry 0 Count (Counted 0) ∷ entry 0 Snap (Numbers []) ∷ []

-- a take from another's list beside an item of one's own
abbrev pub needless_steal_row : List EntryMark
needless_steal_row = entry 0 (Add (n 1)) Done ∷ entry 1 (Add (n 2)) Done ∷ entry 1 Take (ItemFrom (n 1) 0) ∷ []

-- a bag in which caller 0 has as many items as a list can
abbrev pub full_list : State
full_list = BagState (slice_set empty_lists 0 (replicate most_in_list (n 1)))

-- it takes one more of another caller only, and of caller 0 again after a take
abbrev pub full_bag_row : List EntryMark
full_bag_row = entry 0 (Add (n 5)) Full ∷ entry 1 (Add (n 6)) Done ∷ entry 0 Count (Counted 16384) ∷ entry 0 Take (ItemFrom (n 1) 0) ∷ entry 0 (Add (n 5)) Done ∷ []

abbrev pub one_too_many_row : List EntryMark
one_too_many_row = entry 0 (Add (n 5)) Done ∷ []

-- an entry of one caller
abbrev pub count_by : ℕ → List EntryMark
count_by caller = entry caller Count (Counted 0) ∷ []
