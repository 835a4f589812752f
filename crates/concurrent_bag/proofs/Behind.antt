-- A call behind a turn ends at its first try.
use Rattle.std.proofs.Common.{ℕ, arith}
use Rattle.std.specs.Prelude.{Result, Ok, Err}
use Rattle.ho_base.specs.Marks.{Mark}
use Rattle.ho_base.specs.declared.memory.Unpaid.{Unpaid}
use Rattle.ho_base.specs.declared.receipts.Receipt.{Receipt}
use Rattle.passes.specs.Calls.{IsSamePass}
use Rattle.passes.proofs.Repeats.{ends_at_once, ends_in_vain}
use Rattle.turn_lock.specs.Passes.{LockPass}
use Rattle.turn_lock.specs.Calls.{Called}
use Rattle.concurrent_bag.specs.declared.calls.BagCall.{BagCall}
use Rattle.concurrent_bag.specs.declared.calls.BagReply.{BagReply}
use Rattle.concurrent_bag.specs.Calls.{call_mark, reply_mark, fits}
use Rattle.concurrent_bag.specs.Kept.{may_want}
use Rattle.concurrent_bag.specs.Answers.{Ends}

module _ {T : Type 0} (priority : Mark → ℕ) (mark : T → Mark) (p q : LockPass) (call : BagCall T) (same : IsSamePass p q) where
  pub ends : (r : Result (BagReply T × Receipt) (Unpaid (BagCall T))) → Called priority (call_mark mark) (reply_mark mark) fits may_want p q call r → Ends priority mark p q call r
  ends (Ok (reply, receipt)) e = ((e.answers.0, ends_at_once priority p q same e.counted e.answers.0 _ e.answers.1, e.answers.2, e.counted), e.answers.3)
  ends (Err unpaid) e = (e.0, (ends_in_vain priority p q same e.1.counted e.1.no_entry e.1.met, (1, omega arith, e.1.counted)), e.1.wanted)
