-- How one try of an enqueue goes on: v is the view before, and w after.
use Rattle.std.specs.Prelude.{◌≡◌, ℕ, List, [], ◌∷◌, Option, Some, None, true}
use Rattle.ho_base.specs.declared.receipts.Receipt.{Receipt}
use Rattle.ho_base.specs.declared.receipts.Receipt.TheVariants as receipt
use Rattle.ho_model.specs.declared.marks.CallMark.TheVariants.{Enq}
use Rattle.ho_model.specs.Entries.{entry}
use Rattle.ho_model.specs.QueueReceipts.{IsQueueReceipt}
use Rattle.seg_rule.specs.declared.view.View.{View}
use Rattle.seg_rule.specs.declared.view.Obstacle.{Obstacle}
use Rattle.seg_rule.specs.declared.view.Hand.TheVariants.{Nothing}
use Rattle.seg_rule.specs.declared.view.Stage.TheVariants.{Away, Closed}
use Rattle.seg_rule.specs.Rule.{IsWhole}
use Rattle.seg_rule.specs.Steps.{no_scan, turned, MissesTurn}
use Rattle.seg_rule.specs.Tells.{first_len_in, place_count}
use Rattle.queue_tries.specs.Causes.{TailHasMoved, CurrentIsFull, AreInUse}
use Rattle.queue_tries.specs.Tries.{enqueue_mark}
use Rattle.queue_tries.specs.Walks.{GoesOn, Made}
use Rattle.queue_tries.specs.Growth.{ended_tail}
use Rattle.queue_tries.specs.declared.answers.EnqueueReply.{EnqueueReply}
use Rattle.queue_tries.specs.declared.answers.EnqueueReply.TheVariants as enqueue
use Rattle.queue_tries.specs.declared.answers.QueueOnce.{QueueOnce}
use Rattle.queue_tries.specs.declared.answers.QueueOnce.TheVariants.{Answer, Again}
use Rattle.queue_tries.specs.declared.answers.QueueAgain.TheVariants.{Lost, Turn, NoPlace}
use Rattle.queue_tries.specs.declared.enqueues.Unturned.{Unturned}
use Rattle.queue_tries.specs.declared.enqueues.Unturned.TheVariants as unturned
use Rattle.queue_tries.specs.declared.enqueues.Put.{Put}
use Rattle.queue_tries.specs.declared.enqueues.Put.TheVariants as put

-- nothing is in hand, neither a position nor the turn
abbrev pub IsFree : View → Type 0
IsFree w = (w.hand ≡ Nothing) × (w.stage ≡ Away)

-- the entry was made, and nothing is left to do
pub record EndsBy (v : View) (item : ℕ) (reply : EnqueueReply) (receipt : Receipt) (w : View) : Type 0 where
  pub made : Made v (entry v.caller (Enq (item ∷ [])) (enqueue_mark reply)) (λ t. IsQueueReceipt (first_len_in v.object) (Enq (item ∷ [])) (enqueue_mark reply) t receipt) w
  pub free : IsFree w

-- an exchange of an open tail was lost to another entry
pub record LosesTail (v w : View) : Type 0 where
  pub read : List Obstacle
  pub goes : GoesOn v w read
  pub free : IsFree w
  pub moved : TailHasMoved read
  pub others : ¬ IsWhole v

-- the segment of the current place was found full, or its tail closed
pub record FindsEnd (v w : View) : Type 0 where
  pub read : List Obstacle
  pub goes : GoesOn v w read
  pub free : IsFree w
  pub full : CurrentIsFull read

-- no place is free
pub record FindsNone (v w : View) : Type 0 where
  pub read : List Obstacle
  pub goes : GoesOn v w read
  pub free : IsFree w
  pub in_use : AreInUse read (place_count v)

-- The position t of an open tail whose slot is free for it: it was reserved, and its item published in this segment, or the exchange was lost.

abbrev pub PutsFree : View → ℕ → ℕ → Put → View → Type 0
PutsFree v t item (put.Done segment) w = EndsBy v item enqueue.Done (receipt.Enqueued t segment) w
PutsFree v t item put.Lost w = LosesTail v w
PutsFree v t item put.Closed w = FindsEnd v w

abbrev pub PutsTurned : View → ℕ → ℕ → Option ℕ → View → Type 0
PutsTurned v t item (Some segment) w = EndsBy v item enqueue.Done (receipt.Enqueued t segment) w
PutsTurned v t item None w = LosesTail v w

-- the steps without the turn
abbrev pub EndsFree : View → ℕ → Unturned → View → Type 0
EndsFree v item (unturned.Ended reply receipt) w = EndsBy v item reply receipt w
EndsFree v item unturned.Lost w = LosesTail v w
EndsFree v item unturned.Full w = FindsEnd v w

-- the steps with the turn
abbrev pub EndsTurned : View → ℕ → QueueOnce EnqueueReply → View → Type 0
EndsTurned v item (Answer reply receipt) w = EndsBy v item reply receipt w
EndsTurned v item (Again Lost) w = LosesTail v w
EndsTurned v item (Again NoPlace) w = FindsNone v w
EndsTurned v item _ w = ⊥

-- the turn was taken for them, or another caller had it
abbrev pub TriesTurn : View → ℕ → QueueOnce EnqueueReply → View → Type 0
TriesTurn v item (Answer reply receipt) w = EndsBy (turned v) item reply receipt w
TriesTurn v item (Again Lost) w = LosesTail (turned v) w
TriesTurn v item (Again NoPlace) w = FindsNone (turned v) w
TriesTurn v item (Again Turn) w = (found : ℕ) × MissesTurn v found w
TriesTurn v item _ w = ⊥

-- the tail of the full segment was closed, or the exchange was lost
abbrev pub ClosesTail : View → ℕ → ℕ → ℕ → Option ℕ → View → Type 0
ClosesTail v place t length (Some number) w = w ≡ record v { notes = record (no_scan v.notes) { tail = Some (ended_tail place t length number) }; stage = Closed place t true }
ClosesTail v place t length None w = LosesTail v w
