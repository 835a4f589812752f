-- What the loops leave: p before, and q after.
use Rattle.std.specs.Prelude.{◌≡◌, ℕ, suc, false}
use Rattle.ho_base.specs.Marks.{Mark}
use Rattle.ho_model.specs.declared.marks.CallMark.{CallMark}
use Rattle.ho_model.specs.declared.marks.ReplyMark.{ReplyMark}
use Rattle.passes.specs.Seen.{SeesOwn}
use Rattle.passes.specs.Calls.{IsSamePass}
use Rattle.turn_lock.specs.Passes.{LockPass}
use Rattle.cancel_flag.specs.Seen.{Token}
use Rattle.cancel_flag.specs.Looks.{LooksInVain, LooksOut}
use Rattle.wait_loop.specs.Standing.{StaysOpen, IsAnswer, IsEnd}
use Rattle.wait_loop.specs.Own.{raised_by, standing_polls, polls_and_last, MakesAll}

module _ (Awaits : LockPass → CallMark → ℕ → Type 0) where
  -- the caller polled its wait so many times, and it stands
  pub record Polls (p q : LockPass) (number count : ℕ) : Type 0 where
    pub same : IsSamePass p q
    pub entries : SeesOwn p.held p.seen (standing_polls p.caller number count) q.seen
    pub counted : q.made ≡ raised_by p.made p.caller count
    pub met : q.met ≡ p.met
    pub stays : StaysOpen Awaits p q number

  -- and looked at the token before each poll, which had then not seen 1
  pub record PollsUnset (p q : LockPass) (number : ℕ) (t u : Token) : Type 0 where
    pub count : ℕ
    pub polls : Polls p q number count
    pub looked : LooksInVain count t u

  module _ (priority : Mark → ℕ) (Answers : CallMark → ReplyMark → Type 0) where
    -- and then the poll came that had the answer r
    pub record PollsToAnswer (p q : LockPass) (number : ℕ) (r : ReplyMark) : Type 0 where
      pub count : ℕ
      pub all : MakesAll priority p (polls_and_last p.caller number count false r) q
      pub answer : IsAnswer Awaits Answers p number r

    -- and then, after one look more, the entry came that ended the wait by r
    pub record PollsToEnd (GivesUp : CallMark → ReplyMark → Type 0) (p q : LockPass) (number : ℕ) (t u : Token) (r : ReplyMark) : Type 0 where
      pub count : ℕ
      pub all : MakesAll priority p (polls_and_last p.caller number count u.seen r) q
      pub looked : LooksOut (suc count) t u
      pub end : IsEnd Awaits Answers GivesUp p number r
