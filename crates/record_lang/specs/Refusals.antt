-- The first refused line.
use Rattle.std.specs.Prelude.{◌≡◌, ◌<◌, ◌⊎◌, ℕ, List, [], ◌∷◌, length, take, slice_index_or, Result, Ok, Err}
use Rattle.std.specs.Str.Lines.{lines}
use Rattle.record_lang.specs.Causes.{Refusal, and_then, cause_number}
use Rattle.record_lang.specs.Parsing.{nothing_yet, reading_of, whole, with_text}
use Rattle.record_lang.specs.SoFar.{SoFar}
use Rattle.record_lang.specs.declared.causes.Cause.{Cause}

-- what lines say together, if each of them is read
abbrev pub said_by : SoFar → List (List ℕ) → Result SoFar Cause
said_by before [] = Ok before
said_by before (next ∷ rest) = and_then (with_text before next) (λ after. said_by after rest)

-- the line at the place has the cause, or the place is the count of lines and the end of the text has it
abbrev pub HasCauseAt : List (List ℕ) → ℕ → SoFar → Cause → Type 0
HasCauseAt all place before cause = ((place < length all) × (with_text before (slice_index_or all place []) ≡ Err cause)) ⊎ ((place ≡ length all) × (whole before ≡ Err cause))

-- every line before the place is read, and what stands there has the told cause
pub record IsFirstRefused (all : List (List ℕ)) (refusal : Refusal) : Type 0 where
  pub before : SoFar
  pub cause : Cause
  pub read : said_by nothing_yet (take refusal.place all) ≡ Ok before
  pub there : HasCauseAt all refusal.place before cause
  pub told : refusal.cause ≡ cause_number cause

abbrev pub RefusedLinesAreFirst : Type 0
RefusedLinesAreFirst = (text : List ℕ) (refusal : Refusal) → reading_of text ≡ Err refusal → IsFirstRefused (lines text) refusal
