-- What one try of each call comes to: p is the pass before, and q after.
use Rattle.std.specs.Prelude.{◌≡◌, ℕ, ◌*◌, ◌≤◌, ◌<◌, ◌^◌, ◌++◌, List, [], ◌∷◌, slice_index, slice_get, Some, Contains}
use Rattle.ho_base.specs.Marks.{number_priority}
use Rattle.ho_model.specs.declared.marks.EntryMark.{EntryMark}
use Rattle.ho_model.specs.declared.marks.CallMark.TheVariants as callmark
use Rattle.ho_model.specs.declared.marks.ReplyMark.TheVariants.{Counted}
use Rattle.ho_base.specs.declared.receipts.Receipt.{Receipt}
use Rattle.ho_model.specs.Enqueues.{putters_of}
use Rattle.ho_model.specs.Entries.{entry}
use Rattle.ho_model.specs.Tallies.{tally_of}
use Rattle.passes.specs.Numbers.{HasNumber}
use Rattle.passes.specs.Views.{IsWhole}
use Rattle.passes.specs.Calls.{IsSamePass, AddsNoEntry}
use Rattle.passes.specs.Repeats.{Counts}
use Rattle.seg_rule.specs.declared.view.Obstacle.{Obstacle}
use Rattle.seg_rule.specs.declared.view.Obstacle.TheVariants.{Turned, Unpublished}
use Rattle.seg_rule.specs.Tells.{places_in}
use Rattle.queue_tries.specs.Causes.{HeadHasMoved, TailHasMoved, CurrentIsFull, FirstIsBare, AreInUse}
use Rattle.queue_tries.specs.Tries.{IsCountOf, enqueue_mark, dequeue_mark}
use Rattle.queue_tries.specs.declared.answers.EnqueueReply.{EnqueueReply}
use Rattle.queue_tries.specs.declared.answers.DequeueReply.{DequeueReply}
use Rattle.queue_tries.specs.declared.answers.QueueAgain.{QueueAgain}
use Rattle.queue_tries.specs.declared.answers.QueueAgain.TheVariants.{Lost, Turn, InFlight, NoPlace}
use Rattle.queue_tries.specs.declared.answers.QueueOnce.{QueueOnce}
use Rattle.queue_tries.specs.declared.answers.QueueOnce.TheVariants.{Answer, Again, Spent}
use Rattle.concurrent_queue.specs.Passes.{QueueView, Answers}

-- the caller has made as many calls as it may
abbrev pub HasNoCallLeft : QueueView → Type 0
HasNoCallLeft p = 2 ^ 48 ≤ slice_index p.pass.made p.pass.caller

-- after the obstacles before, and last, the number of another caller was read in the turn word
abbrev pub IsTurned : List Obstacle → QueueView → List Obstacle → Type 0
IsTurned read p before = (caller : ℕ) × (caller < p.pass.callers) × (¬ HasNumber p.pass.held caller) × (read ≡ before ++ Turned caller ∷ [])

-- the position is the first one that was not taken, and was enqueued by another caller
pub record IsInFlight (p : QueueView) (position : ℕ) (history : List EntryMark) : Type 0 where
  pub putter : ℕ
  pub enqueued : slice_get (putters_of history) position ≡ Some putter
  pub first : (tally_of history).taken ≡ position
  pub not_held : ¬ HasNumber p.pass.held putter
  pub not_whole : ¬ IsWhole p.pass

module _ (p q : QueueView) where
  -- No entry was made, for this cause. The call is counted where it took the turn, and has read this of others. It had a call left.
  pub record MakesNone (again : QueueAgain) (read : List Obstacle) : Type 0 where
    pub below_limit : ¬ HasNoCallLeft p
    pub same : IsSamePass p.pass q.pass
    pub no_entry : AddsNoEntry number_priority p.pass q.pass
    pub counted : (n : ℕ) × IsCountOf again n × Counts n p.pass q.pass
    pub met : q.pass.met ≡ p.pass.met ++ read
    pub window : q.window ≡ p.window

  -- A caller that has no call left changes nothing.
  pub record IsSpent : Type 0 where
    pub at_limit : HasNoCallLeft p
    pub same : q ≡ p

  -- One call is counted, which made its entry.
  abbrev pub AnswersOnce : ℕ → EntryMark → Receipt → Type 0
  AnswersOnce first_len e receipt = (¬ HasNoCallLeft p) × Answers first_len p e receipt q × Counts 1 p.pass q.pass

  -- The cause of each try that made no entry; of all but the last there is another caller.

  abbrev pub EnqueueCause : List Obstacle → QueueAgain → Type 0
  EnqueueCause read Lost = TailHasMoved read × (¬ IsWhole p.pass)
  EnqueueCause read Turn = (before : List Obstacle) × IsTurned read p before × CurrentIsFull before × (¬ IsWhole p.pass)
  EnqueueCause read InFlight = ⊥
  EnqueueCause read NoPlace = CurrentIsFull read × AreInUse read (places_in p.pass.object p.pass.callers)

  abbrev pub DequeueCause : List Obstacle → QueueAgain → Type 0
  DequeueCause read Lost = HeadHasMoved read × (¬ IsWhole p.pass)
  DequeueCause read Turn = (before : List Obstacle) × IsTurned read p before × FirstIsBare before × (¬ IsWhole p.pass)
  DequeueCause read InFlight = (place position : ℕ) × Contains read (Unpublished place position (2 * position)) × IsInFlight p position q.pass.seen
  DequeueCause read NoPlace = ⊥

  abbrev pub CountCause : List Obstacle → QueueAgain → Type 0
  CountCause read Lost = TailHasMoved read × (¬ IsWhole p.pass)
  CountCause read Turn = IsTurned read p [] × (¬ IsWhole p.pass)
  CountCause read InFlight = ⊥
  CountCause read NoPlace = ⊥

  module _ (first_len : ℕ) where
    -- One try of each call, on a queue with this first length.

    abbrev pub EnqueuesOnce : ℕ → QueueOnce EnqueueReply → Type 0
    EnqueuesOnce value (Answer reply receipt) = AnswersOnce first_len (entry p.pass.caller (callmark.Enq (value ∷ [])) (enqueue_mark reply)) receipt
    EnqueuesOnce value (Again again) = (read : List Obstacle) × MakesNone again read × EnqueueCause read again
    EnqueuesOnce value Spent = IsSpent

    abbrev pub DequeuesOnce : QueueOnce DequeueReply → Type 0
    DequeuesOnce (Answer reply receipt) = AnswersOnce first_len (entry p.pass.caller callmark.Deq (dequeue_mark reply)) receipt
    DequeuesOnce (Again again) = (read : List Obstacle) × MakesNone again read × DequeueCause read again
    DequeuesOnce Spent = IsSpent

    abbrev pub PeeksOnce : QueueOnce DequeueReply → Type 0
    PeeksOnce (Answer reply receipt) = AnswersOnce first_len (entry p.pass.caller callmark.Peek (dequeue_mark reply)) receipt
    PeeksOnce (Again again) = (read : List Obstacle) × MakesNone again read × DequeueCause read again
    PeeksOnce Spent = IsSpent

    abbrev pub CountsOnce : QueueOnce ℕ → Type 0
    CountsOnce (Answer count receipt) = AnswersOnce first_len (entry p.pass.caller callmark.Count (Counted count)) receipt
    CountsOnce (Again again) = (read : List Obstacle) × MakesNone again read × CountCause read again
    CountsOnce Spent = IsSpent
