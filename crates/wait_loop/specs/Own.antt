-- The own entries of calls that wait, and the looks at their token.
use Rattle.std.specs.Prelude.{◌≡◌, ℕ, suc, ◌+◌, ◌++◌, ◌⊎◌, List, [], ◌∷◌, Bool, true, false, length, replicate, slice_index, slice_set}
use Rattle.ho_base.specs.Marks.{Mark}
use Rattle.ho_model.specs.declared.marks.EntryMark.{EntryMark}
use Rattle.ho_model.specs.declared.marks.CallMark.{CallMark}
use Rattle.ho_model.specs.declared.marks.CallMark.TheVariants.{Poll, Cancel}
use Rattle.ho_model.specs.declared.marks.ReplyMark.{ReplyMark}
use Rattle.ho_model.specs.declared.marks.ReplyMark.TheVariants.{Waiting}
use Rattle.ho_model.specs.Entries.{entry}
use Rattle.passes.specs.Calls.{AddsOwn}
use Rattle.turn_lock.specs.Passes.{LockPass}
use Rattle.turn_lock.specs.Calls.{Makes, HasNoCallLeft}
use Rattle.cancel_flag.specs.Seen.{Token}
use Rattle.cancel_flag.specs.Looks.{LooksOut}

-- n calls more of the caller c are counted
abbrev pub raised_by : List ℕ → ℕ → ℕ → List ℕ
raised_by made c n = slice_set made c (slice_index made c + n)

-- The pass made a call for each of these entries: each is counted, and no other call. What is seen is
-- legal, and no obstacle was met.
pub record MakesAll (priority : Mark → ℕ) (p : LockPass) (own : List EntryMark) (q : LockPass) : Type 0 where
  pub entries : AddsOwn priority p own q
  pub counted : q.made ≡ raised_by p.made p.caller (length own)
  pub met : q.met ≡ p.met

-- the call that fetches a wait's answer: a cancel where the token has seen 1, and else a poll
abbrev pub last_call : Bool → ℕ → CallMark
last_call true number = Cancel number
last_call false number = Poll number

-- polls that say that the wait stands
abbrev pub standing_polls : ℕ → ℕ → ℕ → List EntryMark
standing_polls caller number count = replicate count (entry caller (Poll number) (Waiting number))

-- polls that say so, and last the entry with the answer
abbrev pub polls_and_last : ℕ → ℕ → ℕ → Bool → ReplyMark → List EntryMark
polls_and_last caller number count seen r = standing_polls caller number count ++ entry caller (last_call seen number) r ∷ []

module _ (priority : Mark → ℕ) (begin : CallMark) (p q : LockPass) (r : ReplyMark) where
  module _ (t u : Token) where
    -- the begin answered, and the token was not looked at
    abbrev pub EndsAtOnce : Type 0
    EndsAtOnce = Makes priority p begin r q × (u ≡ t)

    -- The begin left a wait, and polls said that it stands. The token was looked at once after each of
    -- these entries, and the last entry is a cancel exactly where it has seen 1 afterwards. The last entry
    -- has the answer.
    pub record EndsLater : Type 0 where
      pub below_limit : ¬ HasNoCallLeft p
      pub number : ℕ
      pub count : ℕ
      pub all : MakesAll priority p (entry p.caller begin (Waiting number) ∷ polls_and_last p.caller number count u.seen r) q
      pub looked : LooksOut (suc count) t u

    -- what a call that waits adds, from a begin to its end by r
    abbrev pub WaitsOut : Type 0
    WaitsOut = EndsAtOnce ⊎ EndsLater

  -- the begin left a wait, polls said that it stands, and the last poll has the answer
  pub record PollsLater : Type 0 where
    pub below_limit : ¬ HasNoCallLeft p
    pub number : ℕ
    pub count : ℕ
    pub all : MakesAll priority p (entry p.caller begin (Waiting number) ∷ polls_and_last p.caller number count false r) q

  -- what a call that waits without a token adds
  abbrev pub PollsOut : Type 0
  PollsOut = Makes priority p begin r q ⊎ PollsLater
