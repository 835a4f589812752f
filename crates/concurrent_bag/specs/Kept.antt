-- What contracts see of a bag's machine.
use Rattle.std.specs.Prelude.{◌≡◌, ℕ, ◌≤◌, List, Bool, true, false}
use Rattle.ho_base.specs.Marks.{Mark}
use Rattle.ho_model.specs.declared.marks.CallMark.{CallMark}
use Rattle.ho_model.specs.declared.marks.CallMark.TheVariants.{Add, Snap}
use Rattle.ho_model.specs.declared.marks.EntryMark.{EntryMark}
use Rattle.ho_model.specs.declared.objects.Object.{Object}
use Rattle.ho_model.specs.declared.objects.Object.TheVariants as object
use Rattle.ho_model.specs.Bag.{Lists, item_count}
use Rattle.ho_model.specs.Objects.{State, BagState}
use Rattle.ho_model.specs.Tallies.{no_tally}
use Rattle.ho_model.specs.Histories.{StandsFor}

-- callers is how many it serves, and steps how many entries it has made
pub record Kept : Type 0 where
  pub callers : ℕ
  pub steps : ℕ
  pub lists : Lists

abbrev pub state_of : Kept → State
state_of k = BagState k.lists

-- the machine is a bag for so many callers, and stands for the history
abbrev pub IsBagOf : (Mark → ℕ) → ℕ → Kept → List EntryMark → Type 0
IsBagOf priority callers k history =
    (k.callers ≡ callers) × StandsFor priority (λ s. object.Bag) (λ s. s.callers) state_of (λ s. s.steps) (λ s. no_tally) object.Bag callers k history

-- no caller is out of range, and there is no item without a step that added it
abbrev pub IsSound : ℕ → ℕ → Lists → Type 0
IsSound callers steps lists = (callers ≤ 64) × (item_count lists ≤ steps)

-- an add and a snapshot may want memory
abbrev pub may_want : Object → CallMark → Bool
may_want o (Add item) = true
may_want o Snap = true
may_want o _ = false
