-- A queue that tells its counts.
use Rattle.std.specs.Prelude.{◌≡◌, ℕ, List, [], Result, Ok, Err, true}
use Rattle.ho_base.specs.declared.memory.Unpaid.{Unpaid}
use Rattle.ho_base.specs.declared.receipts.Receipt.{Receipt}
use Rattle.ho_base.specs.Marks.{number_priority}
use Rattle.ho_model.specs.declared.marks.ReplyMark.{ReplyMark}
use Rattle.ho_model.specs.declared.marks.Tally.{Tally}
use Rattle.ho_model.specs.declared.objects.Object.TheVariants as object
use Rattle.ho_model.specs.Histories.{StandsFor}
use Rattle.concurrent_queue.specs.declared.calls.QueueCall.{QueueCall}
use Rattle.concurrent_queue.specs.declared.calls.QueueReply.{QueueReply}
use Rattle.concurrent_queue.specs.declared.telling.TellingQueue.{TellingQueue}
use Rattle.concurrent_queue.specs.Calls.{call_mark, reply_mark, fits}
use Rattle.ho_model.specs.declared.marks.EntryMark.{EntryMark}
use Rattle.ho_model.specs.Entries.{entry}
use Rattle.ho_model.specs.Tallies.{tally_of}
use Rattle.passes.specs.Repeats.{EndsByEntry}
use Rattle.concurrent_queue.specs.Passes.{TurnQueueView}
use Rattle.concurrent_queue.specs.Kept.{state_of, may_want}

abbrev pub told_mark : QueueReply × Tally → ReplyMark
told_mark told = reply_mark told.0

-- the reply fits the call, and the counts told are those before it
abbrev pub tells : Tally → QueueCall → QueueReply × Tally → Type 0
tells tally call told = fits tally call told.0 × (told.1 ≡ tally)

-- a queue with so much room for 64 callers that stands for the empty history
abbrev pub IsEmptyQueue : ℕ → ℕ → TellingQueue → Type 0
IsEmptyQueue room first_len q =
    StandsFor {S = TellingQueue} number_priority (λ q. object.Queue q.queue.room q.queue.first_len) (λ q. 64) (λ q. state_of q.queue) (λ q. q.queue.steps) (λ q. q.queue.tally) (object.Queue room first_len) 64 q []

-- A call was answered by this reply, with the counts of the entries before its own; or it is one that may
-- want memory.
abbrev pub Told : TurnQueueView → QueueCall → TurnQueueView → Result ((QueueReply × Tally) × Receipt) (Unpaid QueueCall) → Type 0
Told p call q (Ok (told, place)) =
    (before : List EntryMark) × EndsByEntry number_priority p.pass before (entry p.pass.caller (call_mark call) (told_mark told)) q.pass × tells (tally_of before) call told × (q.window ≡ p.window)
Told p call q (Err unpaid) = may_want p.pass.object (call_mark call) ≡ true
