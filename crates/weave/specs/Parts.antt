-- What callers made, and a history that is made of it.
use Rattle.std.specs.Prelude.{◌≡◌, ◌≢◌, ℕ, List, [], ◌∷◌, slice_get, Some, if◌then◌else◌, ◌==◌}
use Rattle.ho_model.specs.declared.histories.Entry.{Entry}
use Rattle.weave.specs.declared.made.Made.{Made}

-- a caller, and what it made, in order
pub record PartMade : Type 0 where
  pub caller : ℕ
  pub made : List Made

-- one call of a history with its receipt
pub record Told : Type 0 where
  pub caller : ℕ
  pub made : Made

abbrev pub entry_told : Told → Entry
entry_told t = record { caller = t.caller; call = t.made.call; reply = t.made.reply }

-- what one caller made of it, in order
abbrev pub made_by : ℕ → List Told → List Made
made_by caller [] = []
made_by caller (t ∷ ts) = if t.caller == caller then t.made ∷ made_by caller ts else made_by caller ts

-- each part is of another caller
abbrev pub OfDifferentCallers : List PartMade → Type 0
OfDifferentCallers parts = (i k : ℕ) (p q : PartMade) → slice_get parts i ≡ Some p → slice_get parts k ≡ Some q → p.caller ≡ q.caller → i ≡ k

-- the history has just these parts: each caller made its part, and one that has none made nothing
pub record HasParts (parts : List PartMade) (told : List Told) : Type 0 where
  pub each : (i : ℕ) (p : PartMade) → slice_get parts i ≡ Some p → made_by p.caller told ≡ p.made
  pub only : (caller : ℕ) → ((i : ℕ) (p : PartMade) → slice_get parts i ≡ Some p → p.caller ≢ caller) → made_by caller told ≡ []
