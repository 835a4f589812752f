-- What contracts see of a queue's machine.
use Rattle.std.specs.Prelude.{◌≡◌, ℕ, ◌≤◌, List, Bool, true, false}
use Rattle.ho_base.specs.Marks.{Mark, number_priority}
use Rattle.ho_model.specs.declared.marks.CallMark.{CallMark}
use Rattle.ho_model.specs.declared.marks.CallMark.TheVariants.{Snap}
use Rattle.ho_model.specs.declared.marks.EntryMark.{EntryMark}
use Rattle.ho_model.specs.declared.marks.Tally.{Tally}
use Rattle.ho_model.specs.declared.objects.Object.{Object}
use Rattle.ho_model.specs.declared.objects.Object.TheVariants as object
use Rattle.ho_model.specs.Objects.{State, QueueState}
use Rattle.ho_model.specs.Histories.{StandsFor}

-- first_len is the length of a first segment, and steps how many entries it has made
pub record Kept : Type 0 where
  pub room : ℕ
  pub first_len : ℕ
  pub items : List Mark
  pub tally : Tally
  pub steps : ℕ

abbrev pub state_of : Kept → State
state_of k = QueueState k.items

-- the machine is a queue with so much room and this length of a first segment, for 64 callers, and
-- stands for the history
abbrev pub IsQueueOf : ℕ → ℕ → Kept → List EntryMark → Type 0
IsQueueOf room first_len k history =
    StandsFor number_priority (λ q. object.Queue q.room q.first_len) (λ q. 64) state_of (λ q. q.steps) (λ q. q.tally) (object.Queue room first_len) 64 k history

-- no count passes the count of steps
abbrev pub IsSound : Tally → ℕ → Type 0
IsSound tally steps = (tally.enqueued ≤ steps) × (tally.taken ≤ steps)

-- a snapshot alone may want memory
abbrev pub may_want : Object → CallMark → Bool
may_want o Snap = true
may_want o _ = false
