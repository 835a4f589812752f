-- At which place of a history an entry stands.
use Rattle.std.specs.Prelude.{◌≡◌, ℕ, ◌+◌, ◌++◌, List, [], ◌∷◌, Bool, false, slice_get, slice_index_or, Some, if◌then◌else◌}
use Rattle.ho_base.specs.declared.receipts.Receipt.{Receipt}
use Rattle.ho_base.specs.declared.receipts.Receipt.TheVariants.{Place}
use Rattle.ho_model.specs.declared.marks.EntryMark.{EntryMark}

-- what was seen begins what was seen later
abbrev pub Begins : List EntryMark → List EntryMark → Type 0
Begins seen later = (more : List EntryMark) × (later ≡ seen ++ more)

-- so many entries of the history stand before this one
abbrev pub StandsAt : List EntryMark → ℕ → EntryMark → Type 0
StandsAt history place e = slice_get history place ≡ Some e

-- the entry stands where the receipt says
abbrev pub StandsBy : List EntryMark → Receipt → EntryMark → Type 0
StandsBy history (Place number) e = StandsAt history number e
StandsBy history _ e = ⊥

-- an entry and its place
pub record Placed : Type 0 where
  pub place : ℕ
  pub entry : EntryMark

-- the entries of the numbers held, each with its place, where `place` entries stand before them all
abbrev pub own_places : List Bool → ℕ → List EntryMark → List Placed
own_places held place [] = []
own_places held place (e ∷ es) =
    if slice_index_or held e.caller false then record { place = place; entry = e } ∷ own_places held (place + 1) es
    else own_places held (place + 1) es
