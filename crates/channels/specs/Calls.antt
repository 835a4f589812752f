-- What any call on a channel, and one try of it, leave of the pass: p before, and q after.
use Rattle.std.specs.Prelude.{ℕ, Result}
use Rattle.ho_base.specs.Marks.{Mark}
use Rattle.ho_base.specs.declared.receipts.Receipt.{Receipt}
use Rattle.ho_base.specs.declared.memory.Unpaid.{Unpaid}
use Rattle.channel_core.specs.declared.calls.ChannelCall.{ChannelCall}
use Rattle.channel_core.specs.declared.calls.ChannelReply.{ChannelReply}
use Rattle.channel_core.specs.Fits.{fits}
use Rattle.channel_core.specs.Kept.{may_want}
use Rattle.channel_core.specs.Marks.{call_mark, reply_mark}
use Rattle.turn_lock.specs.declared.attempt.Attempt.{Attempt}
use Rattle.turn_lock.specs.declared.attempt.Attempt.TheVariants as attempt
use Rattle.turn_lock.specs.Passes.{LockPass}
use Rattle.turn_lock.specs.Calls.{Called, Attempted}
use Rattle.channels.specs.declared.tries.ChannelTry.{ChannelTry}
use Rattle.channels.specs.declared.tries.ChannelTry.TheVariants.{Answer, Busy, Spent, NoMemory}

-- a try of a channel's call, as a try of any machine's
abbrev pub attempt_of : {T : Type 0} → ChannelTry T → Attempt (ChannelCall T) (ChannelReply T)
attempt_of (Answer reply receipt) = attempt.Answer reply receipt
attempt_of (Busy back) = attempt.Busy back
attempt_of (Spent back) = attempt.Spent back
attempt_of (NoMemory back) = attempt.NoMemory back

module _ {T : Type 0} (mark : T → Mark) (priority : Mark → ℕ) (p q : LockPass) (call : ChannelCall T) where
  abbrev pub Calls : Result (ChannelReply T × Receipt) (Unpaid (ChannelCall T)) → Type 0
  Calls answer = Called priority (call_mark mark) (reply_mark mark) fits may_want p q call answer

  abbrev pub Tries : ChannelTry T → Type 0
  Tries answer = Attempted priority (call_mark mark) (reply_mark mark) fits may_want p q call (attempt_of answer)
