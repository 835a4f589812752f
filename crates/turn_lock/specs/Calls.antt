-- What a call on a shared machine, and one try of it, leave of the pass: p before, and q after.
use Rattle.std.specs.Prelude.{◌≡◌, ℕ, ◌<◌, ◌≤◌, ◌^◌, ◌++◌, List, [], ◌∷◌, length, slice_index, sum, All, Bool, true, Result, Ok, Err}
use Rattle.ho_base.specs.Marks.{Mark}
use Rattle.ho_base.specs.declared.memory.Unpaid.{Unpaid}
use Rattle.ho_base.specs.declared.receipts.Receipt.{Receipt}
use Rattle.ho_model.specs.declared.marks.CallMark.{CallMark}
use Rattle.ho_model.specs.declared.marks.ReplyMark.{ReplyMark}
use Rattle.ho_model.specs.declared.marks.Tally.{Tally}
use Rattle.ho_model.specs.declared.objects.Object.{Object}
use Rattle.ho_model.specs.Entries.{entry}
use Rattle.passes.specs.Seen.{IsLawful}
use Rattle.passes.specs.Views.{IsWhole}
use Rattle.passes.specs.Calls.{Answers, AddsOne, AddsNoEntry, CountsOne}
use Rattle.turn_lock.specs.declared.attempt.Attempt.{Attempt}
use Rattle.turn_lock.specs.declared.attempt.Attempt.TheVariants.{Answer, Busy, Spent, NoMemory}
use Rattle.turn_lock.specs.declared.view.Obstacle.{Obstacle}
use Rattle.turn_lock.specs.Passes.{LockPass}

-- the caller has made as many calls that count as it may
abbrev pub HasNoCallLeft : LockPass → Type 0
HasNoCallLeft p = 2 ^ 48 ≤ slice_index p.made p.caller

-- The pass met tickets that were out: a serving number and a ticket number above it. Nothing is
-- counted. A pass that holds all numbers never meets any.
pub record MeetsObstacle (p q : LockPass) : Type 0 where
  pub serving : ℕ
  pub ticket : ℕ
  pub above : serving < ticket
  -- at least as many turns were over then as the pass had seen entries
  pub later : length p.seen ≤ serving
  pub met : q.met ≡ p.met ++ record { serving = serving; ticket = ticket } ∷ []
  pub uncounted : q.made ≡ p.made
  pub others : ¬ IsWhole p

-- Tickets were out: the ticket number was above the serving number, and there are no more tickets than
-- calls that were counted. So it is for each obstacle that the pass has met.
abbrev pub IsOut : List ℕ → Obstacle → Type 0
IsOut made o = (o.serving < o.ticket) × (o.ticket ≤ sum made)

abbrev pub MetTicketsOut : LockPass → Type 0
MetTicketsOut p = All (IsOut p.made) p.met

-- The call is counted, and makes one entry, with this reply. It had a call left.
pub record Makes (priority : Mark → ℕ) (p : LockPass) (call : CallMark) (reply : ReplyMark) (q : LockPass) : Type 0 where
  pub below_limit : ¬ HasNoCallLeft p
  pub counted : CountsOne p q
  pub one : AddsOne priority p (entry p.caller call reply) q

-- A call that may want memory is counted, and makes no entry. It had a call left.
pub record LacksMemory (priority : Mark → ℕ) (may_want : Object → CallMark → Bool) (p : LockPass) (call : CallMark) (q : LockPass) : Type 0 where
  pub below_limit : ¬ HasNoCallLeft p
  pub counted : CountsOne p q
  pub no_entry : AddsNoEntry priority p q
  pub met : q.met ≡ p.met
  pub wanted : may_want p.object call ≡ true

-- A try met tickets that were out, and makes no entry. It had a call left.
pub record IsBusy (priority : Mark → ℕ) (p q : LockPass) : Type 0 where
  pub below_limit : ¬ HasNoCallLeft p
  pub no_entry : AddsNoEntry priority p q
  pub obstacle : MeetsObstacle p q

-- A caller that has no call left changes nothing.
pub record IsSpent (priority : Mark → ℕ) (p q : LockPass) : Type 0 where
  pub at_limit : HasNoCallLeft p
  pub same : q ≡ p
  pub lawful : IsLawful priority p.object p.callers p.seen

-- The words of a machine's calls and replies, the passes, and the call.
module _ {C R : Type 0} (priority : Mark → ℕ) (call_mark : C → CallMark) (reply_mark : R → ReplyMark) (fits : Tally → C → R → Type 0) (may_want : Object → CallMark → Bool) (p q : LockPass) (call : C) where
  -- An answer: the call is counted, and makes one entry, with this reply, which fits it.
  pub record Enters (reply : R) (receipt : Receipt) : Type 0 where
    pub below_limit : ¬ HasNoCallLeft p
    pub counted : CountsOne p q
    pub answers : Answers priority (λ tally. fits tally call reply) p (entry p.caller (call_mark call) (reply_mark reply)) receipt q

  -- a call that waited for the turn
  abbrev pub Called : Result (R × Receipt) (Unpaid C) → Type 0
  Called (Ok answer) = Enters answer.0 answer.1
  Called (Err unpaid) = (unpaid.back ≡ call) × LacksMemory priority may_want p (call_mark call) q

  -- one try of a call, which comes back where there is no answer
  abbrev pub Attempted : Attempt C R → Type 0
  Attempted (Answer reply receipt) = Enters reply receipt
  Attempted (Busy back) = (back ≡ call) × IsBusy priority p q
  Attempted (Spent back) = (back ≡ call) × IsSpent priority p q
  Attempted (NoMemory back) = (back ≡ call) × LacksMemory priority may_want p (call_mark call) q
