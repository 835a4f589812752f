-- Files and bytes in memory.
use Rattle.std.specs.Prelude.{◌≡◌, ℕ, List, [], ◌∷◌, Contains, Option, Some, None, option_map, slice_get, if◌then◌else◌}
use Rattle.std.specs.Str.{bytes_eq}

-- files in memory, each a name and its bytes
abbrev pub Files : Type 0
Files = List (List ℕ × List ℕ)

-- the bytes under a name: those of the first file of that name
abbrev pub file_named : Files → List ℕ → Option (List ℕ)
file_named [] name = None
file_named (file ∷ files) name = if bytes_eq file.0 name then Some file.1 else file_named files name

-- the name of the file at a place, if any
abbrev pub name_at : Files → Option ℕ → Option (List ℕ)
name_at files None = None
name_at files (Some place) = option_map (λ file. file.0) (slice_get files place)

-- the new files have these bytes under this name, and what the old ones have under every other
abbrev pub SetsFile : Files → Files → List ℕ → List ℕ → Type 0
SetsFile old new name bytes =
    (other : List ℕ) → file_named new other ≡ (if bytes_eq name other then Some bytes else file_named old other)

-- files in memory, how many of their bytes were given, and how many fetches gave none
pub record Shelved : Type 0 where
  pub files : Files
  pub given : ℕ
  pub idle : ℕ

-- what a sink in memory has taken, for how many bytes more it has room, how many it takes at once, how
-- many puts there were, how often room was asked for, and for how many bytes last
pub record Sunk : Type 0 where
  pub taken : List ℕ
  pub spare : ℕ
  pub largest : ℕ
  pub puts : ℕ
  pub reserves : ℕ
  pub asked : ℕ

-- which calls are to fail, how many were made, and how many of them failed
pub record Failed : Type 0 where
  pub listed : List ℕ
  pub calls : ℕ
  pub faults : ℕ

-- a shelf some of whose fetches fail, and the file whose fetch failed last
pub record FailingShelf : Type 0 where
  pub shelved : Shelved
  pub failing : Option (List ℕ)
  pub failed : Failed

-- a sink some of whose puts fail
pub record FailingSink : Type 0 where
  pub sunk : Sunk
  pub failed : Failed

-- the call that comes next is one of those that are to fail
abbrev pub FailsNext : Failed → Type 0
FailsNext failed = Contains failed.listed failed.calls
