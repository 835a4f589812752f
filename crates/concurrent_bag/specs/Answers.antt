-- What the calls of a shared bag come to: p is the pass before, and q after.
use Rattle.std.specs.Prelude.{◌≡◌, ℕ, List, Result, Ok, Err, true}
use Rattle.ho_base.specs.Marks.{Mark}
use Rattle.ho_base.specs.declared.memory.NoMemory.{NoMemory}
use Rattle.ho_base.specs.declared.memory.Unpaid.{Unpaid}
use Rattle.ho_base.specs.declared.receipts.Receipt.{Receipt}
use Rattle.ho_model.specs.Entries.{entry}
use Rattle.ho_model.specs.declared.marks.CallMark.TheVariants as callmark
use Rattle.ho_model.specs.declared.marks.ReplyMark.{ReplyMark}
use Rattle.ho_model.specs.declared.marks.ReplyMark.TheVariants as replymark
use Rattle.passes.specs.Views.{PassView}
use Rattle.concurrent_bag.specs.declared.answers.BagAdd.{BagAdd}
use Rattle.concurrent_bag.specs.declared.answers.BagAdd.TheVariants as add
use Rattle.concurrent_bag.specs.declared.answers.BagTake.{BagTake}
use Rattle.concurrent_bag.specs.declared.answers.BagTake.TheVariants as take
use Rattle.concurrent_bag.specs.declared.calls.BagCall.{BagCall}
use Rattle.concurrent_bag.specs.declared.calls.BagReply.{BagReply}
use Rattle.concurrent_bag.specs.Calls.{call_mark, reply_mark, Fits}
use Rattle.concurrent_bag.specs.Kept.{may_want}
use Rattle.concurrent_bag.specs.Passes.{Answers, LacksMemory}

abbrev pub take_mark : {T : Type 0} → (T → Mark) → BagTake T → ReplyMark
take_mark mark (take.Item from item) = replymark.ItemFrom (mark item) from
take_mark mark take.Empty = replymark.Empty

module _ {O T : Type 0} (priority : Mark → ℕ) (mark : T → Mark) (p q : PassView O) where
  -- an add of x; one that finds the list full hands back that very item
  abbrev pub AddReplies : T → BagAdd T → Receipt → Type 0
  AddReplies x add.Done receipt = Answers priority p (entry p.caller (callmark.Add (mark x)) replymark.Done) receipt q
  AddReplies x (add.Full back) receipt = (back ≡ x) × Answers priority p (entry p.caller (callmark.Add (mark x)) replymark.Full) receipt q

  -- for want of memory it hands back that item too, and there is no entry
  abbrev pub Adds : T → Result (BagAdd T × Receipt) (Unpaid T) → Type 0
  Adds x (Ok (reply, receipt)) = AddReplies x reply receipt
  Adds x (Err unpaid) = (unpaid.back ≡ x) × LacksMemory priority p q

-- any call, made by its name
module _ {O T : Type 0} (priority : Mark → ℕ) (mark : T → Mark) (p q : PassView O) (call : BagCall T) where
  abbrev pub Ends : Result (BagReply T × Receipt) (Unpaid (BagCall T)) → Type 0
  Ends (Ok (reply, receipt)) = Answers priority p (entry p.caller (call_mark mark call) (reply_mark mark reply)) receipt q × Fits call reply
  Ends (Err unpaid) = (unpaid.back ≡ call) × LacksMemory priority p q × (may_want p.object (call_mark mark call) ≡ true)

-- a snapshot of the items' numbers; for want of memory there is no entry
abbrev pub Snaps : {O : Type 0} → (Mark → ℕ) → PassView O → PassView O → Result (List ℕ × Receipt) NoMemory → Type 0
Snaps priority p q (Ok (numbers, receipt)) = Answers priority p (entry p.caller callmark.Snap (replymark.Numbers numbers)) receipt q
Snaps priority p q (Err want) = LacksMemory priority p q
