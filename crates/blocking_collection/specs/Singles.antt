-- Single calls: p is the pass before, and q after.
use Rattle.std.specs.Prelude.{◌≡◌, ℕ, List, Result, Ok, Err}
use Rattle.ho_base.specs.Marks.{Mark}
use Rattle.ho_base.specs.declared.memory.NoMemory.{NoMemory}
use Rattle.ho_base.specs.declared.memory.Unpaid.{Unpaid}
use Rattle.ho_base.specs.declared.receipts.Receipt.{Receipt}
use Rattle.ho_model.specs.declared.marks.CallMark.TheVariants as callmark
use Rattle.ho_model.specs.declared.marks.ReplyMark.TheVariants as replymark
use Rattle.turn_lock.specs.Passes.{LockPass}
use Rattle.turn_lock.specs.Calls.{Makes, LacksMemory, Called}
use Rattle.blocking_core.specs.declared.calls.BlockingCall.{BlockingCall}
use Rattle.blocking_core.specs.declared.calls.BlockingReply.{BlockingReply}
use Rattle.blocking_core.specs.Calls.{call_mark, reply_mark, fits}
use Rattle.blocking_core.specs.Kept.{may_want}
use Rattle.blocking_collection.specs.declared.singles.AddReply.{AddReply}
use Rattle.blocking_collection.specs.declared.singles.AddReply.TheVariants as add
use Rattle.blocking_collection.specs.declared.singles.TakeReply.{TakeReply}
use Rattle.blocking_collection.specs.declared.singles.TakeReply.TheVariants as take

module _ {T : Type 0} (priority : Mark → ℕ) (mark : T → Mark) (p q : LockPass) where
  -- any call, made by its name
  abbrev pub OneCall : BlockingCall T → Result (BlockingReply T × Receipt) (Unpaid (BlockingCall T)) → Type 0
  OneCall call answer = Called priority (call_mark mark) (reply_mark mark) fits may_want p q call answer

  -- an add of x that does not wait; an item that is not added comes back
  abbrev pub OneAdd : T → Result (AddReply T) (Unpaid T) → Type 0
  OneAdd x (Ok add.Done) = Makes priority p (callmark.Add (mark x)) replymark.Done q
  OneAdd x (Ok (add.Full y)) = (y ≡ x) × Makes priority p (callmark.Add (mark x)) replymark.Full q
  OneAdd x (Ok (add.Closed y)) = (y ≡ x) × Makes priority p (callmark.Add (mark x)) replymark.Closed q
  OneAdd x (Ok (add.Cancelled y)) = ⊥
  OneAdd x (Err unpaid) = (unpaid.back ≡ x) × LacksMemory priority may_want p (callmark.Add (mark x)) q

  -- a take that does not wait
  abbrev pub OneTake : TakeReply T → Type 0
  OneTake (take.Item y) = Makes priority p callmark.Take (replymark.Item (mark y)) q
  OneTake take.Empty = Makes priority p callmark.Take replymark.Empty q
  OneTake take.Ended = Makes priority p callmark.Take replymark.Ended q
  OneTake take.Cancelled = ⊥

-- a snapshot of the items' numbers
abbrev pub OneSnap : (Mark → ℕ) → LockPass → LockPass → Result (List ℕ) NoMemory → Type 0
OneSnap priority p q (Ok numbers) = Makes priority p callmark.Snap (replymark.Numbers numbers) q
OneSnap priority p q (Err want) = LacksMemory priority may_want p callmark.Snap q
