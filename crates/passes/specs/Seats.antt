-- What the views of all seats of a table say together. V is the view of any object.
use Rattle.std.specs.Prelude.{◌≡◌, ℕ, List}
use mathlib.Core.Option.{some}
use lib.ListN.{get_elem?}
use Rattle.ho_model.specs.declared.marks.EntryMark.{EntryMark}

-- some seat has seen the whole history
abbrev pub SomeoneSaw : {V : Type 0} → (V → List EntryMark) → List V → List EntryMark → Type 0
SomeoneSaw {V} seen views log = (seat : ℕ) × (v : V) × (get_elem? views seat ≡ some v) × (seen v ≡ log)
