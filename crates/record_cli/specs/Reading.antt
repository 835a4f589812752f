-- What a command reads, and what it leaves of the shelf.
use Rattle.std.specs.Prelude.{◌≡◌, ◌≤◌, ◌⊎◌, ◌+◌, ℕ, List, Bool, true, false, ◌&&◌, nat_le, length, Option, Some, None, IfSome, IsSome, IsTrue, if◌then◌else◌}
use Rattle.ho_io.specs.Counts.{counted}
use Rattle.ho_io.specs.Whole.{bytes_within}

-- the bytes under each name
abbrev pub Files : Type 0
Files = List ℕ → Option (List ℕ)

-- what contracts see of a shelf
pub record ShelfState : Type 0 where
  pub files : Option Files
  pub given : ℕ
  pub idle : ℕ
  pub faults : ℕ
  pub failing : Option (List ℕ)

abbrev pub shelf_state : {S : Type 0} → (S → Option Files) → (S → ℕ) → (S → ℕ) → (S → ℕ) → (S → Option (List ℕ)) → S → ShelfState
shelf_state files given idle faults failing shelf =
    record { files = files shelf; given = given shelf; idle = idle shelf; faults = faults shelf; failing = failing shelf }

-- what is read: no file; one, of so many bytes at most; or two, the second only where the first has no more bytes than
-- its limit and is not refused for them
pub data Reading : Type 0 where
  NoFile : Reading
  OneFile : (name : List ℕ) (limit : ℕ) → Reading
  TwoFiles : (first : List ℕ) (limit : ℕ) (is_fine : List ℕ → Bool) (second : List ℕ) (second_limit : ℕ) → Reading

-- whether a file is there, is within its limit, and is not refused
abbrev pub is_fine_file : ℕ → (List ℕ → Bool) → Option (List ℕ) → Bool
is_fine_file limit is_fine None = false
is_fine_file limit is_fine (Some bytes) = nat_le (length bytes) limit && is_fine bytes

-- the most bytes that are given, whatever the files are: of each file one more than its limit
abbrev pub most_given : Reading → ℕ
most_given NoFile = 0
most_given (OneFile name limit) = limit + 1
most_given (TwoFiles first limit is_fine second second_limit) = (limit + 1) + (second_limit + 1)

-- the same where the files are these
abbrev pub given_of : Files → Reading → ℕ
given_of files NoFile = 0
given_of files (OneFile name limit) = bytes_within limit (files name)
given_of files (TwoFiles first limit is_fine second second_limit) =
    bytes_within limit (files first) + (if is_fine_file limit is_fine (files first) then bytes_within second_limit (files second) else 0)

-- the most fetches that give no byte, whatever the files are: one for each file
abbrev pub most_idle : Reading → ℕ
most_idle NoFile = 0
most_idle (OneFile name limit) = 1
most_idle (TwoFiles first limit is_fine second second_limit) = 2

-- the same where the files are these
abbrev pub idle_of : Files → Reading → ℕ
idle_of files NoFile = 0
idle_of files (OneFile name limit) = 1
idle_of files (TwoFiles first limit is_fine second second_limit) = 1 + (if is_fine_file limit is_fine (files first) then 1 else 0)

-- the fetch that failed was in turn: that of the first file, which is there, or of the second, which is there too, and the
-- first is there, within its limit and not refused
abbrev pub FailedInTurn : Files → Reading → Option (List ℕ) → Type 0
FailedInTurn files NoFile failing = ⊥
FailedInTurn files (OneFile name limit) failing = (failing ≡ Some name) × IsSome (files name)
FailedInTurn files (TwoFiles first limit is_fine second second_limit) failing =
    ((failing ≡ Some first) × IsSome (files first)) ⊎ ((failing ≡ Some second) × IsSome (files second) × IsTrue (is_fine_file limit is_fine (files first)))

-- how many fetches failed, after a command of which one failed, or none
abbrev pub faults_after : ℕ → Bool → ℕ
faults_after before true = counted before 1
faults_after before false = before

-- What was read, where one fetch failed or none: the files stay, at most their limits and one byte more of each are given, and at
-- most one fetch a file gives no byte, as at its end. The fetch that failed, if any, was in turn.
pub record Fetches (reading : Reading) (before after : ShelfState) (has_failed : Bool) : Type 0 where
  pub files : after.files ≡ before.files
  pub bounded : after.given ≤ before.given + most_given reading
  pub given : IfSome before.files (λ files. after.given ≤ before.given + given_of files reading)
  pub idle_bounded : after.idle ≤ before.idle + most_idle reading
  pub idle : IfSome before.files (λ files. after.idle ≤ before.idle + idle_of files reading)
  pub later : before.faults ≤ after.faults
  pub faults : after.faults ≡ faults_after before.faults has_failed
  pub in_turn : IfSome before.files (λ files. IsTrue has_failed → FailedInTurn files reading after.failing)
