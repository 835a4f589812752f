-- What one try of a call comes to: p is the pass before, and q after.
use Rattle.std.specs.Prelude.{◌≡◌, ℕ, ◌*◌, ◌≤◌, ◌^◌, ◌++◌, List, [], ◌∷◌, slice_index, Contains}
use Rattle.ho_base.specs.Marks.{number_priority}
use Rattle.ho_base.specs.declared.receipts.Receipt.{Receipt}
use Rattle.ho_model.specs.declared.marks.EntryMark.{EntryMark}
use Rattle.ho_model.specs.declared.marks.CallMark.TheVariants as callmark
use Rattle.ho_model.specs.declared.marks.ReplyMark.{ReplyMark}
use Rattle.ho_model.specs.declared.marks.ReplyMark.TheVariants as replymark
use Rattle.ho_model.specs.Entries.{entry}
use Rattle.ho_model.specs.QueueReceipts.{IsQueueReceipt}
use Rattle.ho_model.specs.Tallies.{tally_of}
use Rattle.passes.specs.Calls.{IsSamePass, AddsNoEntry}
use Rattle.passes.specs.Repeats.{EndsByEntry, Counts}
use Rattle.seg_rule.specs.declared.view.Obstacle.{Obstacle}
use Rattle.seg_rule.specs.declared.view.Obstacle.TheVariants.{Unpublished}
use Rattle.seg_rule.specs.Rule.{IsWhole}
use Rattle.seg_rule.specs.Steps.{IsAtRest}
use Rattle.seg_rule.specs.Passes.{QueueShape, QueueView, IsOf, pass_of}
use Rattle.seg_rule.specs.Tells.{IsInFlight, first_len_in, place_count}
use Rattle.queue_tries.specs.Causes.{HeadHasMoved, TailHasMoved, IsTurned, CurrentIsFull, FirstIsBare, AreInUse}
use Rattle.queue_tries.specs.declared.answers.EnqueueReply.{EnqueueReply}
use Rattle.queue_tries.specs.declared.answers.EnqueueReply.TheVariants as enqueue
use Rattle.queue_tries.specs.declared.answers.DequeueReply.{DequeueReply}
use Rattle.queue_tries.specs.declared.answers.DequeueReply.TheVariants as dequeue
use Rattle.queue_tries.specs.declared.answers.QueueAgain.{QueueAgain}
use Rattle.queue_tries.specs.declared.answers.QueueAgain.TheVariants.{Lost, Turn, InFlight, NoPlace}
use Rattle.queue_tries.specs.declared.answers.QueueOnce.{QueueOnce}
use Rattle.queue_tries.specs.declared.answers.QueueOnce.TheVariants.{Answer, Again, Spent}

-- a pass of the queue that is between calls
abbrev pub IsIdle : QueueShape → QueueView → Type 0
IsIdle queue p = IsOf queue p × IsAtRest p.view

-- the caller has made as many calls as it may
abbrev pub HasNoCallLeft : QueueView → Type 0
HasNoCallLeft p = 2 ^ 48 ≤ slice_index p.view.made p.view.caller

abbrev pub enqueue_mark : EnqueueReply → ReplyMark
enqueue_mark enqueue.Done = replymark.Done
enqueue_mark enqueue.Full = replymark.Full

abbrev pub dequeue_mark : DequeueReply → ReplyMark
dequeue_mark (dequeue.Item item) = replymark.Item (item ∷ [])
dequeue_mark dequeue.Empty = replymark.Empty

-- How often a try is counted that made no entry: once where it took the turn, which that of a lost exchange did or not.
abbrev pub IsCountOf : QueueAgain → ℕ → Type 0
IsCountOf Lost n = n ≤ 1
IsCountOf Turn n = n ≡ 0
IsCountOf InFlight n = n ≡ 1
IsCountOf NoPlace n = n ≡ 1

module _ (p q : QueueView) where
  -- One call is counted, which made this entry. The receipt is that of the entry, for the counts of the entries before it.
  pub record MakesEntry (e : EntryMark) (receipt : Receipt) : Type 0 where
    pub below_limit : ¬ HasNoCallLeft p
    pub before : List EntryMark
    pub ends : EndsByEntry number_priority (pass_of p) before e (pass_of q)
    pub receipt_is : IsQueueReceipt (first_len_in p.view.object) e.call e.reply (tally_of before) receipt
    pub counted : Counts 1 (pass_of p) (pass_of q)

  -- No entry was made, for this cause. The call is counted where it took the turn, and has read this of others.
  pub record MakesNone (again : QueueAgain) (read : List Obstacle) : Type 0 where
    pub below_limit : ¬ HasNoCallLeft p
    pub same : IsSamePass (pass_of p) (pass_of q)
    pub no_entry : AddsNoEntry number_priority (pass_of p) (pass_of q)
    pub counted : (n : ℕ) × IsCountOf again n × Counts n (pass_of p) (pass_of q)
    pub met : q.view.met ≡ p.view.met ++ read

  -- A caller that has no call left changes nothing.
  pub record IsSpent : Type 0 where
    pub at_limit : HasNoCallLeft p
    pub same : q ≡ p

  -- The cause of each try that made no entry; of all but the last there is another caller.

  abbrev pub EnqueueCause : List Obstacle → QueueAgain → Type 0
  EnqueueCause read Lost = TailHasMoved read × (¬ IsWhole p.view)
  EnqueueCause read Turn = (before : List Obstacle) × IsTurned read p.view before × CurrentIsFull before × (¬ IsWhole p.view)
  EnqueueCause read InFlight = ⊥
  EnqueueCause read NoPlace = CurrentIsFull read × AreInUse read (place_count p.view)

  abbrev pub DequeueCause : List Obstacle → QueueAgain → Type 0
  DequeueCause read Lost = HeadHasMoved read × (¬ IsWhole p.view)
  DequeueCause read Turn = (before : List Obstacle) × IsTurned read p.view before × FirstIsBare before × (¬ IsWhole p.view)
  DequeueCause read InFlight = (place position : ℕ) × Contains read (Unpublished place position (2 * position)) × IsInFlight p.view position q.view.seen
  DequeueCause read NoPlace = ⊥

  abbrev pub CountCause : List Obstacle → QueueAgain → Type 0
  CountCause read Lost = TailHasMoved read × (¬ IsWhole p.view)
  CountCause read Turn = IsTurned read p.view [] × (¬ IsWhole p.view)
  CountCause read InFlight = ⊥
  CountCause read NoPlace = ⊥

  -- One try of each call.

  abbrev pub Enqueues : ℕ → QueueOnce EnqueueReply → Type 0
  Enqueues value (Answer reply receipt) = MakesEntry (entry p.view.caller (callmark.Enq (value ∷ [])) (enqueue_mark reply)) receipt
  Enqueues value (Again again) = (read : List Obstacle) × MakesNone again read × EnqueueCause read again
  Enqueues value Spent = IsSpent

  abbrev pub Dequeues : QueueOnce DequeueReply → Type 0
  Dequeues (Answer reply receipt) = MakesEntry (entry p.view.caller callmark.Deq (dequeue_mark reply)) receipt
  Dequeues (Again again) = (read : List Obstacle) × MakesNone again read × DequeueCause read again
  Dequeues Spent = IsSpent

  abbrev pub Peeks : QueueOnce DequeueReply → Type 0
  Peeks (Answer reply receipt) = MakesEntry (entry p.view.caller callmark.Peek (dequeue_mark reply)) receipt
  Peeks (Again again) = (read : List Obstacle) × MakesNone again read × DequeueCause read again
  Peeks Spent = IsSpent

  abbrev pub CountsOnce : QueueOnce ℕ → Type 0
  CountsOnce (Answer count receipt) = MakesEntry (entry p.view.caller callmark.Count (replymark.Counted count)) receipt
  CountsOnce (Again again) = (read : List Obstacle) × MakesNone again read × CountCause read again
  CountsOnce Spent = IsSpent
