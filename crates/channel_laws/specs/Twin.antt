-- A channel beside its twin, which lacks one of its waits.
use Rattle.std.specs.Prelude.{◌≡◌, ℕ, ◌⊎◌, List, [], ◌∷◌, Bool, true, false, not, filter, ◌&&◌, ◌||◌, ◌==◌, Option, Some, None, if◌then◌else◌}
use Rattle.ho_base.specs.Marks.{Mark}
use Rattle.ho_model.specs.declared.marks.CallMark.{CallMark}
use Rattle.ho_model.specs.declared.marks.ReplyMark.{ReplyMark}
use Rattle.ho_model.specs.declared.marks.CallMark.TheVariants.{Poll, Cancel}
use Rattle.ho_model.specs.declared.marks.ReplyMark.TheVariants.{Cancelled, CancelledWrite, Unknown}
use Rattle.ho_model.specs.declared.marks.EntryMark.{EntryMark}
use Rattle.ho_model.specs.Channel.{Standing, WantsRoom, Answered, Waiter, Channel, Outcome, is_wait, is_waiting}

-- the waits but for the one of this name
abbrev pub but_for : ℕ → ℕ → List Waiter → List Waiter
but_for c n waits = filter (λ w. not (is_wait c n w)) waits

abbrev pub twin : ℕ → ℕ → Channel → Channel
twin c n s = record s { waits = but_for c n s.waits }

-- a wait of this name stands unanswered
abbrev pub is_open : ℕ → ℕ → List Waiter → Bool
is_open c n [] = false
is_open c n (w ∷ ws) = (is_wait c n w && is_waiting w.standing) || is_open c n ws

-- a wait of this name has its answer
abbrev pub is_answered : ℕ → ℕ → List Waiter → Bool
is_answered c n [] = false
is_answered c n (w ∷ ws) = (is_wait c n w && not (is_waiting w.standing)) || is_answered c n ws

-- a poll or a cancel of this wait
abbrev pub is_of_wait : ℕ → ℕ → ℕ → CallMark → Bool
is_of_wait c n caller (Poll number) = (caller == c) && (number == n)
is_of_wait c n caller (Cancel number) = (caller == c) && (number == n)
is_of_wait c n caller _ = false

-- a call answers the wait; or it leaves it, and the twin answers alike and stays the twin
abbrev pub Follows : ℕ → ℕ → Option Outcome → Option Outcome → Type 0
Follows c n None other = other ≡ None
Follows c n (Some o) other = (is_answered c n o.1.waits ≡ true) ⊎ ((is_open c n o.1.waits ≡ true) × (other ≡ Some (o.0, twin c n o.1)))

-- how the wait of this name stands
abbrev pub standing_of : ℕ → ℕ → List Waiter → Standing
standing_of c n [] = Answered Unknown
standing_of c n (w ∷ ws) = if is_wait c n w then w.standing else standing_of c n ws

-- what a cancel says that gives a wait up: a write's own item goes back
abbrev pub given_up : Standing → ReplyMark
given_up (WantsRoom item) = CancelledWrite item
given_up _ = Cancelled

-- the reply says that a wait is given up
abbrev pub IsCancelReply : ReplyMark → Type 0
IsCancelReply reply = (reply ≡ Cancelled) ⊎ ((item : Mark) × (reply ≡ CancelledWrite item))

-- entries but for the polls and cancels of one wait
abbrev pub others_of : ℕ → ℕ → List EntryMark → List EntryMark
others_of c n entries = filter (λ e. not (is_of_wait c n e.caller e.call)) entries
