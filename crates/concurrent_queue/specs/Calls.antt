-- What contracts see of the calls and replies of a queue, and which replies fit a call.
use Rattle.std.specs.Prelude.{ℕ, [], ◌∷◌}
use Rattle.ho_model.specs.declared.marks.CallMark.{CallMark}
use Rattle.ho_model.specs.declared.marks.CallMark.TheVariants as callmark
use Rattle.ho_model.specs.declared.marks.ReplyMark.{ReplyMark}
use Rattle.ho_model.specs.declared.marks.ReplyMark.TheVariants as replymark
use Rattle.ho_model.specs.declared.marks.Tally.{Tally}
use Rattle.concurrent_queue.specs.declared.calls.QueueCall.{QueueCall}
use Rattle.concurrent_queue.specs.declared.calls.QueueCall.TheVariants as call
use Rattle.concurrent_queue.specs.declared.calls.QueueReply.{QueueReply}
use Rattle.concurrent_queue.specs.declared.calls.QueueReply.TheVariants as reply

abbrev pub call_mark : QueueCall → CallMark
call_mark (call.Enqueue item) = callmark.Enq (item ∷ [])
call_mark call.Dequeue = callmark.Deq
call_mark call.Peek = callmark.Peek
call_mark call.Count = callmark.Count
call_mark call.Snap = callmark.Snap

abbrev pub reply_mark : QueueReply → ReplyMark
reply_mark reply.Done = replymark.Done
reply_mark reply.Full = replymark.Full
reply_mark (reply.Item item) = replymark.Item (item ∷ [])
reply_mark reply.Empty = replymark.Empty
reply_mark (reply.Count count) = replymark.Counted count
reply_mark (reply.Numbers numbers) = replymark.Numbers numbers

abbrev pub EnqueueFits : QueueReply → Type 0
EnqueueFits reply.Done = Unit {0}
EnqueueFits reply.Full = Unit {0}
EnqueueFits _ = ⊥

-- to a dequeue or a peek
abbrev pub ItemFits : QueueReply → Type 0
ItemFits (reply.Item item) = Unit {0}
ItemFits reply.Empty = Unit {0}
ItemFits _ = ⊥

abbrev pub CountFits : QueueReply → Type 0
CountFits (reply.Count count) = Unit {0}
CountFits _ = ⊥

abbrev pub SnapFits : QueueReply → Type 0
SnapFits (reply.Numbers numbers) = Unit {0}
SnapFits _ = ⊥

abbrev pub fits : Tally → QueueCall → QueueReply → Type 0
fits tally (call.Enqueue item) r = EnqueueFits r
fits tally call.Dequeue r = ItemFits r
fits tally call.Peek r = ItemFits r
fits tally call.Count r = CountFits r
fits tally call.Snap r = SnapFits r
