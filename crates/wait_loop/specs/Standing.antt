-- A wait that stays open, and what ends it.
use Rattle.std.specs.Prelude.{ℕ, ◌⊎◌}
use Rattle.ho_model.specs.declared.marks.CallMark.{CallMark}
use Rattle.ho_model.specs.declared.marks.ReplyMark.{ReplyMark}
use Rattle.turn_lock.specs.Passes.{LockPass}

module _ (Awaits : LockPass → CallMark → ℕ → Type 0) where
  -- any wait of this number stays open
  abbrev pub StaysOpen : LockPass → LockPass → ℕ → Type 0
  StaysOpen p q number = (begin : CallMark) → Awaits p begin number → Awaits q begin number

  module _ (Answers : CallMark → ReplyMark → Type 0) where
    -- the reply is the answer of the wait
    abbrev pub IsAnswer : LockPass → ℕ → ReplyMark → Type 0
    IsAnswer p number r = (begin : CallMark) → Awaits p begin number → Answers begin r

    -- the reply is the answer of the wait, or says that it was given up
    abbrev pub IsEnd : (CallMark → ReplyMark → Type 0) → LockPass → ℕ → ReplyMark → Type 0
    IsEnd GivesUp p number r = (begin : CallMark) → Awaits p begin number → GivesUp begin r ⊎ Answers begin r
