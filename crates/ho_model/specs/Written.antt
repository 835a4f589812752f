-- Entries as scripts and histories write them, with items that are numbers, and their marks.
use Rattle.std.specs.Prelude.{ℕ, List, [], ◌∷◌, Bool, true, false, ◌&&◌, if◌then◌else◌, map}
use Rattle.ho_base.specs.Marks.{Mark}
use Rattle.ho_model.specs.declared.objects.Object.{Object}
use Rattle.ho_model.specs.declared.objects.Object.TheVariants.{Unbounded, Bounded, Prioritized}
use Rattle.ho_model.specs.declared.histories.Call.{Call}
use Rattle.ho_model.specs.declared.histories.Call.TheVariants as call
use Rattle.ho_model.specs.declared.histories.Reply.{Reply}
use Rattle.ho_model.specs.declared.histories.Reply.TheVariants as reply
use Rattle.ho_model.specs.declared.histories.Entry.{Entry}
use Rattle.ho_model.specs.Entries.{CallMark, ReplyMark, EntryMark, entry, Enq, Deq, Peek, Count, Snap, Add, Take, Write, Read, BeginWrite, BeginRead, BeginLookWrite, BeginLookRead, Poll, Cancel, CompleteWith, Completed, CompleteAdding, AddingCompleted, Done, Dropped, Full, Refused, Item, ItemFrom, Shown, Empty, Ended, Closed, ClosedWith, Counted, Numbers, Waiting, Ready, Faulted, Cancelled, CancelledWrite, Unknown, Flag}

-- the mark of an item that is a number
abbrev pub mark_of : ℕ → Mark
mark_of number = number ∷ []

abbrev pub call_of : Call → CallMark
call_of (call.Enq number) = Enq (mark_of number)
call_of call.Deq = Deq
call_of call.Peek = Peek
call_of call.Count = Count
call_of call.Snap = Snap
call_of (call.Add number) = Add (mark_of number)
call_of call.Take = Take
call_of (call.Write number) = Write (mark_of number)
call_of call.Read = Read
call_of (call.BeginWrite number) = BeginWrite (mark_of number)
call_of call.BeginRead = BeginRead
call_of call.BeginLookWrite = BeginLookWrite
call_of call.BeginLookRead = BeginLookRead
call_of (call.Poll number) = Poll number
call_of (call.Cancel number) = Cancel number
call_of (call.CompleteWith fault) = CompleteWith fault
call_of call.Completed = Completed
call_of call.CompleteAdding = CompleteAdding
call_of call.AddingCompleted = AddingCompleted

-- a reply that gives items
abbrev pub giving : Reply → ReplyMark
giving reply.Done = Done
giving (reply.Dropped number) = Dropped (mark_of number)
giving reply.Full = Full
giving (reply.Refused fault number) = Refused fault (mark_of number)
giving (reply.Item number) = Item (mark_of number)
giving (reply.ItemFrom number from) = ItemFrom (mark_of number) from
giving reply.Empty = Empty
giving reply.Ended = Ended
giving reply.Closed = Closed
giving (reply.ClosedWith fault) = ClosedWith fault
giving (reply.Count count) = Counted count
giving (reply.Numbers numbers) = Numbers numbers
giving (reply.Waiting wait) = Waiting wait
giving (reply.Ready flag) = Ready flag
giving (reply.Faulted fault) = Faulted fault
giving reply.Cancelled = Cancelled
giving (reply.CancelledWrite number) = CancelledWrite (mark_of number)
giving reply.Unknown = Unknown
giving (reply.Flag flag) = Flag flag

-- a reply that shows an item, and does not give it
abbrev pub showing : Reply → ReplyMark
showing (reply.Item number) = Shown number
showing said = giving said

-- a channel's peek shows the item's number; that of a queue gives the item
abbrev pub is_channel : Object → Bool
is_channel Unbounded = true
is_channel (Bounded capacity mode) = true
is_channel Prioritized = true
is_channel _ = false

abbrev pub is_peek : Call → Bool
is_peek call.Peek = true
is_peek _ = false

abbrev pub reply_of : Object → Call → Reply → ReplyMark
reply_of object called said = if is_channel object && is_peek called then showing said else giving said

abbrev pub entry_of : Object → Entry → EntryMark
entry_of object e = entry e.caller (call_of e.call) (reply_of object e.call e.reply)

abbrev pub history_of : Object → List Entry → List EntryMark
history_of object history = map (entry_of object) history
