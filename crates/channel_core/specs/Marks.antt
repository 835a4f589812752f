-- What contracts see of the calls, replies and waits of a channel, with each item as its mark.
use Rattle.std.specs.Prelude.{ℕ, List, map, Option, Bool, unwrap_or}
use Rattle.ho_base.specs.Marks.{Mark}
use Rattle.ho_model.specs.declared.marks.CallMark.{CallMark}
use Rattle.ho_model.specs.declared.marks.CallMark.TheVariants as callmark
use Rattle.ho_model.specs.declared.marks.ReplyMark.{ReplyMark}
use Rattle.ho_model.specs.declared.marks.ReplyMark.TheVariants as replymark
use Rattle.ho_model.specs.Channel as channel
use Rattle.channel_core.specs.declared.calls.ChannelCall.{ChannelCall}
use Rattle.channel_core.specs.declared.calls.ChannelCall.TheVariants as call
use Rattle.channel_core.specs.declared.calls.ChannelReply.{ChannelReply}
use Rattle.channel_core.specs.declared.calls.ChannelReply.TheVariants as reply
use Rattle.channel_core.specs.declared.waits.Looked.{Looked}
use Rattle.channel_core.specs.declared.waits.Looked.TheVariants as looked
use Rattle.channel_core.specs.declared.waits.Settled.{Settled}
use Rattle.channel_core.specs.declared.waits.Settled.TheVariants as settled
use Rattle.channel_core.specs.declared.waits.Standing.{Standing}
use Rattle.channel_core.specs.declared.waits.Standing.TheVariants as standing
use Rattle.channel_core.specs.declared.waits.Waiter.{Waiter}
use Rattle.channel_core.specs.declared.waits.Want.{Want}
use Rattle.channel_core.specs.declared.waits.Want.TheVariants as want

-- a fault's number, 0 for none
abbrev pub fault_number : Option ℕ → ℕ
fault_number fault = unwrap_or fault 0

-- which waits are meant
abbrev pub kind_of : Want → channel.Standing → Bool
kind_of want.Item = channel.wants_item
kind_of want.Room = channel.wants_room
kind_of want.LookForItem = channel.looks_for_item
kind_of want.LookForRoom = channel.looks_for_room

abbrev pub looked_mark : Looked → ReplyMark
looked_mark (looked.Ready flag) = replymark.Ready flag
looked_mark (looked.Faulted fault) = replymark.Faulted fault

module _ {T : Type 0} (mark : T → Mark) where
  abbrev pub call_mark : ChannelCall T → CallMark
  call_mark (call.Write item) = callmark.Write (mark item)
  call_mark call.Read = callmark.Read
  call_mark call.Peek = callmark.Peek
  call_mark call.Count = callmark.Count
  call_mark (call.BeginWrite item) = callmark.BeginWrite (mark item)
  call_mark call.BeginRead = callmark.BeginRead
  call_mark call.BeginLookWrite = callmark.BeginLookWrite
  call_mark call.BeginLookRead = callmark.BeginLookRead
  call_mark (call.Poll number) = callmark.Poll number
  call_mark (call.Cancel number) = callmark.Cancel number
  call_mark (call.Complete fault) = callmark.CompleteWith (fault_number fault)
  call_mark call.Completed = callmark.Completed

  abbrev pub reply_mark : ChannelReply T → ReplyMark
  reply_mark reply.Done = replymark.Done
  reply_mark (reply.Dropped item) = replymark.Dropped (mark item)
  reply_mark (reply.Full item) = replymark.Full
  reply_mark (reply.Refused fault item) = replymark.Refused (fault_number fault) (mark item)
  reply_mark (reply.Item item) = replymark.Item (mark item)
  reply_mark (reply.Shown number) = replymark.Shown number
  reply_mark reply.Empty = replymark.Empty
  reply_mark (reply.Count count) = replymark.Counted count
  reply_mark (reply.Closed fault) = replymark.ClosedWith (fault_number fault)
  reply_mark (reply.Waiting number) = replymark.Waiting number
  reply_mark (reply.Ready flag) = replymark.Ready flag
  reply_mark (reply.Faulted fault) = replymark.Faulted fault
  reply_mark reply.Cancelled = replymark.Cancelled
  reply_mark (reply.CancelledWrite item) = replymark.CancelledWrite (mark item)
  reply_mark reply.Unknown = replymark.Unknown
  reply_mark (reply.Flag flag) = replymark.Flag flag

  abbrev pub settled_mark : Settled T → ReplyMark
  settled_mark settled.Done = replymark.Done
  settled_mark (settled.Refused fault item) = replymark.Refused (fault_number fault) (mark item)
  settled_mark (settled.Item item) = replymark.Item (mark item)
  settled_mark (settled.Closed fault) = replymark.ClosedWith (fault_number fault)
  settled_mark (settled.Look found) = looked_mark found

  abbrev pub standing_mark : Standing T → channel.Standing
  standing_mark standing.WantsItem = channel.WantsItem
  standing_mark (standing.WantsRoom item) = channel.WantsRoom (mark item)
  standing_mark standing.LooksForItem = channel.LooksForItem
  standing_mark standing.LooksForRoom = channel.LooksForRoom
  standing_mark (standing.Answered answer) = channel.Answered (settled_mark answer)

  abbrev pub waiter_mark : Waiter T → channel.Waiter
  waiter_mark w = record { caller = w.caller; number = w.number; standing = standing_mark w.standing }

  abbrev pub waits_mark : List (Waiter T) → List channel.Waiter
  waits_mark waits = map waiter_mark waits
