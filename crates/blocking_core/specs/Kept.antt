-- What contracts see of a blocking collection's machine.
use Rattle.std.specs.Prelude.{◌≡◌, ℕ, ◌≤◌, List, Option, None, Bool, true, false}
use Rattle.ho_base.specs.Marks.{Mark}
use Rattle.ho_model.specs.declared.marks.CallMark.{CallMark}
use Rattle.ho_model.specs.declared.marks.EntryMark.{EntryMark}
use Rattle.ho_model.specs.declared.objects.Object.{Object}
use Rattle.ho_model.specs.declared.objects.Object.TheVariants as object
use Rattle.ho_model.specs.Bag.{item_count}
use Rattle.ho_model.specs.Blocking as blocking
use Rattle.ho_model.specs.Objects.{State, BlockingState}
use Rattle.ho_model.specs.Tallies.{no_tally}
use Rattle.ho_model.specs.Histories.{StandsFor}
use Rattle.blocking_core.specs.Rows.{wants_memory}

-- callers is how many it serves, and steps how many entries it has made
pub record Kept : Type 0 where
  pub object : Object
  pub callers : ℕ
  pub steps : ℕ
  pub blocking : blocking.Blocking

abbrev pub state_of : Kept → State
state_of k = BlockingState k.blocking

-- the machine is of the object, serves so many callers, and stands for the history
abbrev pub IsMachineOf : (Mark → ℕ) → Object → ℕ → Kept → List EntryMark → Type 0
IsMachineOf priority o callers k history =
    (k.callers ≡ callers) × StandsFor priority (λ s. s.object) (λ s. s.callers) state_of (λ s. s.steps) (λ s. no_tally) o callers k history

-- no caller is out of range, and there is no item without a step that added it
abbrev pub IsSound : ℕ → ℕ → blocking.Blocking → Type 0
IsSound callers steps b = (callers ≤ 64) × (item_count b.lists ≤ steps)

-- the calls of a blocking collection that may want memory
abbrev pub may_want : Object → CallMark → Bool
may_want (object.Blocking store bound) call = wants_memory store bound call
may_want _ call = false
