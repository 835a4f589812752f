-- Which replies a call can have.
use Rattle.std.specs.Prelude.{Bool, true, false}
use Rattle.ho_model.specs.declared.histories.Call.{Call}
use Rattle.ho_model.specs.declared.histories.Call.TheVariants as call
use Rattle.ho_model.specs.declared.histories.Reply.{Reply}
use Rattle.ho_model.specs.declared.histories.Reply.TheVariants.{Done, Dropped, Full, Refused, Item, ItemFrom, Empty, Ended, Closed, ClosedWith, Count, Numbers, Waiting, Ready, Faulted, Cancelled, CancelledWrite, Unknown, Flag}
use Rattle.drive_kit.specs.declared.calls.Kind.{Kind}
use Rattle.drive_kit.specs.declared.calls.Kind.TheVariants.{Bag, Blocking}

-- to an enqueue, and to an add to a bag
abbrev pub to_put : Reply → Bool
to_put Done = true
to_put Full = true
to_put _ = false

-- to an add to a blocking collection
abbrev pub to_add : Reply → Bool
to_add Done = true
to_add Full = true
to_add Closed = true
to_add _ = false

-- to a dequeue and a peek
abbrev pub to_find : Reply → Bool
to_find (Item item) = true
to_find Empty = true
to_find _ = false

-- to a take from a bag
abbrev pub to_steal : Reply → Bool
to_steal (ItemFrom item from) = true
to_steal Empty = true
to_steal _ = false

-- to a take from a blocking collection
abbrev pub to_take : Reply → Bool
to_take (Item item) = true
to_take Empty = true
to_take Ended = true
to_take _ = false

-- to a count
abbrev pub to_count : Reply → Bool
to_count (Count count) = true
to_count _ = false

-- to a snapshot
abbrev pub to_snap : Reply → Bool
to_snap (Numbers items) = true
to_snap _ = false

-- to a question, and to a completion of a channel
abbrev pub to_ask : Reply → Bool
to_ask (Flag flag) = true
to_ask _ = false

-- to a completion for adding
abbrev pub to_complete : Reply → Bool
to_complete Done = true
to_complete _ = false

-- to a write
abbrev pub to_write : Reply → Bool
to_write Done = true
to_write (Dropped item) = true
to_write Full = true
to_write (Refused fault item) = true
to_write _ = false

-- to a write that may wait
abbrev pub to_begin_write : Reply → Bool
to_begin_write Done = true
to_begin_write (Dropped item) = true
to_begin_write (Refused fault item) = true
to_begin_write (Waiting wait) = true
to_begin_write _ = false

-- to a read
abbrev pub to_read : Reply → Bool
to_read (Item item) = true
to_read Empty = true
to_read (ClosedWith fault) = true
to_read _ = false

-- to a read that may wait
abbrev pub to_begin_read : Reply → Bool
to_begin_read (Item item) = true
to_begin_read (ClosedWith fault) = true
to_begin_read (Waiting wait) = true
to_begin_read _ = false

-- to a look for an item or for room, which may wait
abbrev pub to_look : Reply → Bool
to_look (Ready flag) = true
to_look (Faulted fault) = true
to_look (Waiting wait) = true
to_look _ = false

-- to a wait that has ended
abbrev pub to_end : Reply → Bool
to_end Done = true
to_end (Refused fault item) = true
to_end (Item item) = true
to_end (ClosedWith fault) = true
to_end (Ready flag) = true
to_end (Faulted fault) = true
to_end Unknown = true
to_end _ = false

abbrev pub to_poll : Reply → Bool
to_poll (Waiting wait) = true
to_poll said = to_end said

abbrev pub to_cancel : Reply → Bool
to_cancel Cancelled = true
to_cancel (CancelledWrite item) = true
to_cancel said = to_end said

-- an add and a take are answered by the kind of the object
abbrev pub to_add_of : Kind → Reply → Bool
to_add_of Blocking said = to_add said
to_add_of kind said = to_put said

abbrev pub to_take_of : Kind → Reply → Bool
to_take_of Bag said = to_steal said
to_take_of kind said = to_take said

-- whether a call on such an object can have a reply
unfoldable pub fits : Kind → Call → Reply → Bool
fits kind (call.Enq value) said = to_put said
fits kind call.Deq said = to_find said
fits kind call.Peek said = to_find said
fits kind call.Count said = to_count said
fits kind call.Snap said = to_snap said
fits kind (call.Add value) said = to_add_of kind said
fits kind call.Take said = to_take_of kind said
fits kind (call.Write value) said = to_write said
fits kind call.Read said = to_read said
fits kind (call.BeginWrite value) said = to_begin_write said
fits kind call.BeginRead said = to_begin_read said
fits kind call.BeginLookWrite said = to_look said
fits kind call.BeginLookRead said = to_look said
fits kind (call.Poll wait) said = to_poll said
fits kind (call.Cancel wait) said = to_cancel said
fits kind (call.CompleteWith fault) said = to_ask said
fits kind call.Completed said = to_ask said
fits kind call.CompleteAdding said = to_complete said
fits kind call.AddingCompleted said = to_ask said
