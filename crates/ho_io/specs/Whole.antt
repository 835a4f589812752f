-- What the loops over pieces answer.
use Rattle.std.specs.Prelude.{◌≡◌, ◌<◌, ◌≤◌, ◌+◌, ◌++◌, ⊤, ℕ, List, [], length, take, min, Option, Some, None, option_map}
use Rattle.ho_io.specs.Counts.{counted}
use Rattle.ho_io.specs.declared.whole.Loaded.{Loaded}
use Rattle.ho_io.specs.declared.whole.Loaded.TheVariants.{Whole, TooLarge, Missing, Failed, NoMemory}
use Rattle.ho_io.specs.declared.whole.Written.{Written}
use Rattle.ho_io.specs.declared.whole.Written.TheVariants.{Whole as Everything, Failed as Broken}

-- the answer of a whole read, for what the shelf has under the name
abbrev pub IsLoaded : Option (List ℕ) → ℕ → Loaded → Type 0
IsLoaded file limit (Whole bytes) = (file ≡ Some bytes.items) × (length bytes.items ≤ limit)
IsLoaded file limit TooLarge = (bytes : List ℕ) × (file ≡ Some bytes) × (limit < length bytes)
IsLoaded file limit Missing = file ≡ None
IsLoaded file limit Failed = (bytes : List ℕ) × (file ≡ Some bytes)
IsLoaded file limit NoMemory = ⊤

-- the first k bytes of the text were taken, where the sink tells it
abbrev pub TookFirst : Option (List ℕ) → Option (List ℕ) → List ℕ → ℕ → Type 0
TookFirst before after text k = after ≡ option_map (λ taken. taken ++ take k text) before

-- the whole text was taken, or a front of it where a put failed
abbrev pub IsWritten : List ℕ → Option (List ℕ) → Option (List ℕ) → Written → Type 0
IsWritten text before after Everything = TookFirst before after text (length text)
IsWritten text before after Broken = (k : ℕ) × (k ≤ length text) × TookFirst before after text k

-- the room fell by what was taken: the whole text, or less where a put failed
abbrev pub LeavesRoom : List ℕ → ℕ → ℕ → Written → Type 0
LeavesRoom text before after Everything = after + length text ≡ before
LeavesRoom text before after Broken = (after ≤ before) × (before < after + length text)

-- these bytes are the front of the file, and nothing was read if there is no file
abbrev pub IsReadSoFar : Option (List ℕ) → List ℕ → Type 0
IsReadSoFar None bytes = bytes ≡ []
IsReadSoFar (Some file) bytes = bytes ≡ take (length bytes) file

-- a file that was read whole is within the limit, whatever the shelf tells
abbrev pub IsWithin : ℕ → Loaded → Type 0
IsWithin limit (Whole bytes) = length bytes.items ≤ limit
IsWithin limit TooLarge = ⊤
IsWithin limit Missing = ⊤
IsWithin limit Failed = ⊤
IsWithin limit NoMemory = ⊤

-- the most bytes that are given for a file: all of it, or one more than the limit
abbrev pub bytes_within : ℕ → Option (List ℕ) → ℕ
bytes_within limit None = 0
bytes_within limit (Some bytes) = min (length bytes) (limit + 1)

-- how many fetches failed, after a whole read: one more where it failed, else none
abbrev pub failed_reads : ℕ → Loaded → ℕ
failed_reads before (Whole bytes) = before
failed_reads before TooLarge = before
failed_reads before Missing = before
failed_reads before Failed = counted before 1
failed_reads before NoMemory = before

-- how many fetches gave no byte, after a whole read: one more where it met the file's end, no file or a
-- failure, else none
abbrev pub idle_reads : ℕ → Loaded → ℕ
idle_reads before (Whole bytes) = counted before 1
idle_reads before TooLarge = before
idle_reads before Missing = counted before 1
idle_reads before Failed = counted before 1
idle_reads before NoMemory = before

-- the file whose fetch failed last, after a whole read: this one where it failed, else as before
abbrev pub failing_read : Option (List ℕ → Option (List ℕ)) → Option (List ℕ) → List ℕ → Loaded → Option (List ℕ)
failing_read files before name (Whole bytes) = before
failing_read files before name TooLarge = before
failing_read files before name Missing = before
failing_read files before name Failed = option_map (λ told. name) files
failing_read files before name NoMemory = before

-- how many puts failed, after a whole text: one more where it was not taken whole, else none
abbrev pub failed_writes : ℕ → Written → ℕ
failed_writes before Everything = before
failed_writes before Broken = counted before 1
