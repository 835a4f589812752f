-- Records and the rows of a file.
use Rattle.std.specs.Prelude.{◌≡◌, ◌+◌, ℕ, List, [], ◌∷◌, ⊤}

-- a record: its number, and the bytes of each field
pub record Row : Type 0 where
  pub number : ℕ
  pub fields : List (List ℕ)

-- the first of these rows has this number, and each later one the next
abbrev pub AreNumberedFrom : ℕ → List Row → Type 0
AreNumberedFrom n [] = ⊤
AreNumberedFrom n (row ∷ rows) = (row.number ≡ n) × AreNumberedFrom (n + 1) rows

-- row k has the number k
abbrev pub AreNumbered : List Row → Type 0
AreNumbered rows = AreNumberedFrom 0 rows
