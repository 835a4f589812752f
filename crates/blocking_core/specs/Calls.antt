-- What contracts see of the calls and replies of a blocking collection, and which replies fit a call.
use Rattle.std.specs.Prelude.{◌≡◌}
use Rattle.ho_base.specs.Marks.{Mark}
use Rattle.ho_model.specs.declared.marks.CallMark.{CallMark}
use Rattle.ho_model.specs.declared.marks.CallMark.TheVariants as callmark
use Rattle.ho_model.specs.declared.marks.ReplyMark.{ReplyMark}
use Rattle.ho_model.specs.declared.marks.ReplyMark.TheVariants as replymark
use Rattle.ho_model.specs.declared.marks.Tally.{Tally}
use Rattle.blocking_core.specs.declared.calls.BlockingCall.{BlockingCall}
use Rattle.blocking_core.specs.declared.calls.BlockingCall.TheVariants as call
use Rattle.blocking_core.specs.declared.calls.BlockingReply.{BlockingReply}
use Rattle.blocking_core.specs.declared.calls.BlockingReply.TheVariants as reply

module _ {T : Type 0} (mark : T → Mark) where
  abbrev pub call_mark : BlockingCall T → CallMark
  call_mark (call.Add item) = callmark.Add (mark item)
  call_mark call.Take = callmark.Take
  call_mark call.CompleteAdding = callmark.CompleteAdding
  call_mark call.AddingCompleted = callmark.AddingCompleted
  call_mark call.Completed = callmark.Completed
  call_mark call.Count = callmark.Count
  call_mark call.Snap = callmark.Snap

  abbrev pub reply_mark : BlockingReply T → ReplyMark
  reply_mark reply.Done = replymark.Done
  reply_mark (reply.Full item) = replymark.Full
  reply_mark (reply.Closed item) = replymark.Closed
  reply_mark (reply.Item item) = replymark.Item (mark item)
  reply_mark reply.Empty = replymark.Empty
  reply_mark reply.Ended = replymark.Ended
  reply_mark (reply.Flag flag) = replymark.Flag flag
  reply_mark (reply.Count count) = replymark.Counted count
  reply_mark (reply.Numbers numbers) = replymark.Numbers numbers

module _ {T : Type 0} where
  -- an item that is handed back is the call's own
  abbrev pub AddFits : T → BlockingReply T → Type 0
  AddFits x reply.Done = Unit {0}
  AddFits x (reply.Full y) = y ≡ x
  AddFits x (reply.Closed y) = y ≡ x
  AddFits x _ = ⊥

  abbrev pub TakeFits : BlockingReply T → Type 0
  TakeFits (reply.Item y) = Unit {0}
  TakeFits reply.Empty = Unit {0}
  TakeFits reply.Ended = Unit {0}
  TakeFits _ = ⊥

  abbrev pub DoneFits : BlockingReply T → Type 0
  DoneFits reply.Done = Unit {0}
  DoneFits _ = ⊥

  abbrev pub FlagFits : BlockingReply T → Type 0
  FlagFits (reply.Flag flag) = Unit {0}
  FlagFits _ = ⊥

  abbrev pub CountFits : BlockingReply T → Type 0
  CountFits (reply.Count count) = Unit {0}
  CountFits _ = ⊥

  abbrev pub SnapFits : BlockingReply T → Type 0
  SnapFits (reply.Numbers numbers) = Unit {0}
  SnapFits _ = ⊥

  -- a blocking collection tells no counts of receipts
  abbrev pub fits : Tally → BlockingCall T → BlockingReply T → Type 0
  fits tally (call.Add x) r = AddFits x r
  fits tally call.Take r = TakeFits r
  fits tally call.CompleteAdding r = DoneFits r
  fits tally call.AddingCompleted r = FlagFits r
  fits tally call.Completed r = FlagFits r
  fits tally call.Count r = CountFits r
  fits tally call.Snap r = SnapFits r
