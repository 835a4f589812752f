-- What a pass has seen of its object's history, and what a call adds to that.
use Rattle.std.specs.Prelude.{◌≡◌, ℕ, ◌<◌, ◌++◌, List, [], ◌∷◌, length, Bool, false, slice_index_or, nat_le, if◌then◌else◌}
use Rattle.ho_base.specs.Marks.{Mark}
use Rattle.ho_model.specs.declared.objects.Object.{Object}
use Rattle.ho_model.specs.declared.marks.EntryMark.{EntryMark}
use Rattle.ho_model.specs.Histories.{IsLegal}

-- entries of callers whose number is not held
abbrev pub AreOthers : List Bool → List EntryMark → Type 0
AreOthers held [] = Unit {0}
AreOthers held (e ∷ es) = (slice_index_or held e.caller false ≡ false) × AreOthers held es

-- each entry is of a caller below n
abbrev pub AreBelow : ℕ → List EntryMark → Type 0
AreBelow n [] = Unit {0}
AreBelow n (e ∷ es) = (e.caller < n) × AreBelow n es

-- what was seen goes on with entries of other callers alone
abbrev pub SeesOthers : List Bool → List EntryMark → List EntryMark → Type 0
SeesOthers held seen later = (others : List EntryMark) × (later ≡ seen ++ others) × AreOthers held others

-- what was seen goes on with entries of other callers, which makes `before`, and then with this one entry
abbrev pub SeesEntry : List Bool → List EntryMark → List EntryMark → EntryMark → List EntryMark → Type 0
SeesEntry held seen before e later = SeesOthers held seen before × (later ≡ before ++ e ∷ [])

-- the entries of the numbers held, in order
abbrev pub own_of : List Bool → List EntryMark → List EntryMark
own_of held [] = []
own_of held (e ∷ es) = if slice_index_or held e.caller false then e ∷ own_of held es else own_of held es

-- what was seen goes on with entries of which those of the numbers held are just these, in order
abbrev pub SeesOwn : List Bool → List EntryMark → List EntryMark → List EntryMark → Type 0
SeesOwn held seen own later = (more : List EntryMark) × (later ≡ seen ++ more) × (own_of held more ≡ own)

-- the longer of two lists, of which one begins the other
abbrev pub longer : List EntryMark → List EntryMark → List EntryMark
longer xs ys = if nat_le (length xs) (length ys) then ys else xs

-- a history that the object allows, each entry by a caller below n
abbrev pub IsLawful : (Mark → ℕ) → Object → ℕ → List EntryMark → Type 0
IsLawful priority o n history = IsLegal priority o history × AreBelow n history
