-- A call behind a turn ends at its first try.
use Rattle.std.proofs.Common.{refl}
use Rattle.std.specs.Prelude.{◌≡◌, Result, Ok, Err}
use Rattle.ho_base.specs.Marks.{number_priority}
use Rattle.ho_base.specs.declared.memory.Unpaid.{Unpaid}
use Rattle.ho_base.specs.declared.receipts.Receipt.{Receipt}
use Rattle.ho_model.specs.declared.marks.Tally.{Tally}
use Rattle.passes.specs.Calls.{IsSamePass}
use Rattle.passes.proofs.Repeats.{ends_at_once}
use Rattle.turn_lock.specs.Calls.{Called}
use Rattle.concurrent_queue.specs.declared.calls.QueueCall.{QueueCall}
use Rattle.concurrent_queue.specs.declared.calls.QueueReply.{QueueReply}
use Rattle.concurrent_queue.specs.Calls.{call_mark}
use Rattle.concurrent_queue.specs.Kept.{may_want}
use Rattle.concurrent_queue.specs.Passes.{TurnQueueView}
use Rattle.concurrent_queue.specs.Telling.{told_mark, tells, Told}

pub told : (p q : TurnQueueView) (call : QueueCall) → IsSamePass p.pass q.pass → q.window ≡ p.window → (r : Result ((QueueReply × Tally) × Receipt) (Unpaid QueueCall)) → Called number_priority call_mark told_mark tells may_want p.pass q.pass call r → Told p call q r
told p q call same window (Ok (reply, place)) e = (e.answers.0, ends_at_once number_priority p.pass q.pass same e.counted e.answers.0 _ e.answers.1, e.answers.3, window)
told p q call same window (Err unpaid) e = e.1.wanted
