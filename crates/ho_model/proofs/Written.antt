-- What is written is told by its mark.
use Rattle.std.proofs.Common.{◌≡◌, List, [], ◌∷◌, refl, sym, ap, ◌∙◌}
use Rattle.std.specs.Prelude.{map, Bool, true, false, ◌&&◌, if◌then◌else◌}
use Rattle.ho_base.specs.Marks.{number_of}
use Rattle.ho_model.specs.declared.objects.Object.{Object}
use Rattle.ho_model.specs.declared.histories.Call.{Call}
use Rattle.ho_model.specs.declared.histories.Call.TheVariants as call
use Rattle.ho_model.specs.declared.histories.Reply.{Reply}
use Rattle.ho_model.specs.declared.histories.Reply.TheVariants as reply
use Rattle.ho_model.specs.declared.histories.Entry.{Entry}
use Rattle.ho_model.specs.Entries.{CallMark, ReplyMark, EntryMark, Enq, Deq, Peek, Count, Snap, Add, Take, Write, Read, BeginWrite, BeginRead, BeginLookWrite, BeginLookRead, Poll, Cancel, CompleteWith, Completed, CompleteAdding, AddingCompleted, Done, Dropped, Full, Refused, Item, ItemFrom, Shown, Empty, Ended, Closed, ClosedWith, Counted, Numbers, Waiting, Ready, Faulted, Cancelled, CancelledWrite, Unknown, Flag}
use Rattle.ho_model.specs.Written.{call_of, giving, showing, is_channel, is_peek, reply_of, entry_of, history_of}
use Rattle.ho_model.specs.WrittenLaws.{CallsAreTold, RepliesAreTold, EntriesAreTold, HistoriesAreTold}

-- the call and the reply that have a mark
call_from : CallMark → Call
call_from (Enq item) = call.Enq (number_of item)
call_from Deq = call.Deq
call_from Peek = call.Peek
call_from Count = call.Count
call_from Snap = call.Snap
call_from (Add item) = call.Add (number_of item)
call_from Take = call.Take
call_from (Write item) = call.Write (number_of item)
call_from Read = call.Read
call_from (BeginWrite item) = call.BeginWrite (number_of item)
call_from BeginRead = call.BeginRead
call_from BeginLookWrite = call.BeginLookWrite
call_from BeginLookRead = call.BeginLookRead
call_from (Poll number) = call.Poll number
call_from (Cancel number) = call.Cancel number
call_from (CompleteWith fault) = call.CompleteWith fault
call_from Completed = call.Completed
call_from CompleteAdding = call.CompleteAdding
call_from AddingCompleted = call.AddingCompleted

reply_from : ReplyMark → Reply
reply_from Done = reply.Done
reply_from (Dropped item) = reply.Dropped (number_of item)
reply_from Full = reply.Full
reply_from (Refused fault item) = reply.Refused fault (number_of item)
reply_from (Item item) = reply.Item (number_of item)
reply_from (ItemFrom item from) = reply.ItemFrom (number_of item) from
reply_from (Shown number) = reply.Item number
reply_from Empty = reply.Empty
reply_from Ended = reply.Ended
reply_from Closed = reply.Closed
reply_from (ClosedWith fault) = reply.ClosedWith fault
reply_from (Counted count) = reply.Count count
reply_from (Numbers numbers) = reply.Numbers numbers
reply_from (Waiting wait) = reply.Waiting wait
reply_from (Ready flag) = reply.Ready flag
reply_from (Faulted fault) = reply.Faulted fault
reply_from Cancelled = reply.Cancelled
reply_from (CancelledWrite item) = reply.CancelledWrite (number_of item)
reply_from Unknown = reply.Unknown
reply_from (Flag flag) = reply.Flag flag

call_from-call_of : (a : Call) → call_from (call_of a) ≡ a
unfolding call_from
call_from-call_of (call.Enq number) = refl
call_from-call_of call.Deq = refl
call_from-call_of call.Peek = refl
call_from-call_of call.Count = refl
call_from-call_of call.Snap = refl
call_from-call_of (call.Add number) = refl
call_from-call_of call.Take = refl
call_from-call_of (call.Write number) = refl
call_from-call_of call.Read = refl
call_from-call_of (call.BeginWrite number) = refl
call_from-call_of _ = refl

giving_tells : (a : Reply) → reply_from (giving a) ≡ a
unfolding reply_from
giving_tells reply.Done = refl
giving_tells (reply.Dropped number) = refl
giving_tells _ = refl

showing_tells : (a : Reply) → reply_from (showing a) ≡ a
unfolding reply_from
showing_tells reply.Done = refl
showing_tells (reply.Dropped number) = refl
showing_tells _ = refl

reply_step : (shows : Bool) (a : Reply) → reply_from (if shows then showing a else giving a) ≡ a
reply_step true a = showing_tells a
reply_step false a = giving_tells a

reply_from-reply_of : (object : Object) (called : Call) (a : Reply) → reply_from (reply_of object called a) ≡ a
reply_from-reply_of object called a = reply_step (is_channel object && is_peek called) a

pub calls_are_told : CallsAreTold
calls_are_told a b h = sym (call_from-call_of a) ∙ (ap call_from h ∙ call_from-call_of b)

pub replies_are_told : RepliesAreTold
replies_are_told object called a b h = sym (reply_from-reply_of object called a) ∙ (ap reply_from h ∙ reply_from-reply_of object called b)

entry_from : EntryMark → Entry
entry_from e = record { caller = e.caller; call = call_from e.call; reply = reply_from e.reply }

entry_from-entry_of : (object : Object) (a : Entry) → entry_from (entry_of object a) ≡ a
unfolding entry_from
entry_from-entry_of object a =
    let calls = call_from-call_of a.call in let replies = reply_from-reply_of object a.call a.reply in
    λ i. record { caller = a.caller; call = calls i; reply = replies i }

pub entries_are_told : EntriesAreTold
entries_are_told object a b h = sym (entry_from-entry_of object a) ∙ (ap entry_from h ∙ entry_from-entry_of object b)

history_from-history_of : (object : Object) (a : List Entry) → map entry_from (history_of object a) ≡ a
history_from-history_of object [] = refl
history_from-history_of object (e ∷ es) =
    let first = entry_from-entry_of object e in let rest = history_from-history_of object es in
    λ i. first i ∷ rest i

pub histories_are_told : HistoriesAreTold
histories_are_told object a b h = sym (history_from-history_of object a) ∙ (ap (map entry_from) h ∙ history_from-history_of object b)
