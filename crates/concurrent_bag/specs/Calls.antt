-- What contracts see of the calls and replies of a bag, and which replies fit a call.
use Rattle.std.specs.Prelude.{◌≡◌}
use Rattle.ho_base.specs.Marks.{Mark}
use Rattle.ho_model.specs.declared.marks.CallMark.{CallMark}
use Rattle.ho_model.specs.declared.marks.CallMark.TheVariants as callmark
use Rattle.ho_model.specs.declared.marks.ReplyMark.{ReplyMark}
use Rattle.ho_model.specs.declared.marks.ReplyMark.TheVariants as replymark
use Rattle.ho_model.specs.declared.marks.Tally.{Tally}
use Rattle.concurrent_bag.specs.declared.calls.BagCall.{BagCall}
use Rattle.concurrent_bag.specs.declared.calls.BagCall.TheVariants as call
use Rattle.concurrent_bag.specs.declared.calls.BagReply.{BagReply}
use Rattle.concurrent_bag.specs.declared.calls.BagReply.TheVariants as reply

module _ {T : Type 0} (mark : T → Mark) where
  abbrev pub call_mark : BagCall T → CallMark
  call_mark (call.Add item) = callmark.Add (mark item)
  call_mark call.Take = callmark.Take
  call_mark call.Count = callmark.Count
  call_mark call.Snap = callmark.Snap

  abbrev pub reply_mark : BagReply T → ReplyMark
  reply_mark reply.Done = replymark.Done
  reply_mark (reply.Full item) = replymark.Full
  reply_mark (reply.Item from item) = replymark.ItemFrom (mark item) from
  reply_mark reply.Empty = replymark.Empty
  reply_mark (reply.Count count) = replymark.Counted count
  reply_mark (reply.Numbers numbers) = replymark.Numbers numbers

module _ {T : Type 0} where
  -- an item that is handed back is the call's own
  abbrev pub AddFits : T → BagReply T → Type 0
  AddFits x reply.Done = Unit {0}
  AddFits x (reply.Full y) = y ≡ x
  AddFits x _ = ⊥

  abbrev pub TakeFits : BagReply T → Type 0
  TakeFits (reply.Item from y) = Unit {0}
  TakeFits reply.Empty = Unit {0}
  TakeFits _ = ⊥

  abbrev pub CountFits : BagReply T → Type 0
  CountFits (reply.Count count) = Unit {0}
  CountFits _ = ⊥

  abbrev pub SnapFits : BagReply T → Type 0
  SnapFits (reply.Numbers numbers) = Unit {0}
  SnapFits _ = ⊥

  abbrev pub Fits : BagCall T → BagReply T → Type 0
  Fits (call.Add x) r = AddFits x r
  Fits call.Take r = TakeFits r
  Fits call.Count r = CountFits r
  Fits call.Snap r = SnapFits r

  -- a bag tells no counts of receipts
  abbrev pub fits : Tally → BagCall T → BagReply T → Type 0
  fits tally call r = Fits call r
