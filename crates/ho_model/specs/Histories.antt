-- Legal histories, the part of a caller, and what a machine stands for.
use Rattle.std.specs.Prelude.{◌≡◌, ℕ, ◌≤◌, List, [], ◌∷◌, length, Option, Some, option_and_then, if◌then◌else◌, ◌==◌}
use Rattle.ho_base.specs.Marks.{Mark}
use Rattle.ho_model.specs.declared.objects.Object.{Object}
use Rattle.ho_model.specs.Entries.{EntryMark}
use Rattle.ho_model.specs.Objects.{State, empty_state, object_step}
use Rattle.ho_model.specs.Tallies.{Tally, tally_of}

-- the state after entries that follow a state; None where one is refused
abbrev pub fold_from : (Mark → ℕ) → Object → State → List EntryMark → Option State
fold_from priority o s [] = Some s
fold_from priority o s (e ∷ es) = option_and_then (λ next. fold_from priority o next es) (object_step priority o s e)

-- the state after a history
abbrev pub state_after : (Mark → ℕ) → Object → List EntryMark → Option State
state_after priority o history = fold_from priority o (empty_state o) history

-- the object refuses no entry of the history
abbrev pub IsLegal : (Mark → ℕ) → Object → List EntryMark → Type 0
IsLegal priority o history = (s : State) × (state_after priority o history ≡ Some s)

-- the entries of one caller, in order
abbrev pub part : ℕ → List EntryMark → List EntryMark
part caller [] = []
part caller (e ∷ es) = if e.caller == caller then e ∷ part caller es else part caller es

-- The machine x, seen by its ghost members, is of the object, serves n callers, is in the state after
-- the history, has made as many steps as it has entries, and tells its counts.
abbrev pub StandsFor : {S : Type 0} → (Mark → ℕ) → (S → Object) → (S → ℕ) → (S → State) → (S → ℕ) → (S → Tally) → Object → ℕ → S → List EntryMark → Type 0
StandsFor priority object callers state steps tally o n x history =
    (object x ≡ o) × (n ≤ callers x) × (state_after priority o history ≡ Some (state x)) × (length history ≡ steps x) × (tally x ≡ tally_of history)
