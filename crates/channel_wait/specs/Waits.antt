-- What a begin and a poll of a wait leave of the pass: p before, and q after.
use Rattle.std.specs.Prelude.{ℕ}
use Rattle.ho_base.specs.Marks.{Mark}
use Rattle.ho_model.specs.declared.marks.CallMark.{CallMark}
use Rattle.ho_model.specs.declared.marks.CallMark.TheVariants.{Poll}
use Rattle.ho_model.specs.declared.marks.ReplyMark.{ReplyMark}
use Rattle.ho_model.specs.declared.marks.ReplyMark.TheVariants.{Waiting}
use Rattle.channel_core.specs.Kept.{may_want}
use Rattle.passes.specs.Calls.{IsSamePass}
use Rattle.turn_lock.specs.Passes.{LockPass}
use Rattle.turn_lock.specs.Calls.{Makes, LacksMemory, IsBusy, IsSpent}
use Rattle.channel_wait.specs.Standing.{Awaits}
use Rattle.channel_wait.specs.declared.ends.Begun.{Begun}
use Rattle.channel_wait.specs.declared.ends.Begun.TheVariants as begun

-- Why a poll has no answer. Its entry says that the wait stands; or it made no entry, since it met
-- tickets that were out, or its caller has no call left.
pub data IsPending (priority : Mark → ℕ) (p q : LockPass) (number : ℕ) : Type 0 where
  Stands : (polled : Makes priority p (Poll number) (Waiting number) q) → IsPending priority p q number
  Busy : (busy : IsBusy priority p q) → IsPending priority p q number
  Spent : (spent : IsSpent priority p q) → IsPending priority p q number

-- a poll of the wait made one entry, with this answer
abbrev pub Polled : (Mark → ℕ) → LockPass → LockPass → ℕ → ReplyMark → Type 0
Polled priority p q number r = Makes priority p (Poll number) r q

-- one entry of the pass, with this answer
abbrev pub Answered : (Mark → ℕ) → CallMark → LockPass → LockPass → ReplyMark → Type 0
Answered priority call p q r = IsSamePass p q × Makes priority p call r q

-- a begin that left a wait of this number
abbrev pub LeavesWait : (Mark → ℕ) → CallMark → LockPass → LockPass → ℕ → Type 0
LeavesWait priority begin p q number = Answered priority begin p q (Waiting number)

-- a begin without memory: it is counted, and makes no entry
abbrev pub Unbegun : (Mark → ℕ) → CallMark → LockPass → LockPass → Type 0
Unbegun priority begin p q = IsSamePass p q × LacksMemory priority may_want p begin q

-- a begin made one entry, with its end; or with the number of the wait that it left
abbrev pub Begins : {E : Type 0} → (Mark → ℕ) → CallMark → (E → ReplyMark) → LockPass → LockPass → Begun ℕ E → Type 0
Begins priority begin mark p q (begun.Ended end) = Makes priority p begin (mark end) q
Begins priority begin mark p q (begun.Waiting number) = Makes priority p begin (Waiting number) q × Awaits q begin number
