-- What a command answers.
use Rattle.std.specs.Prelude.{◌≡◌, ⊤, ℕ, List, [], ◌∷◌, Bool, true, false, length, nat_le, codes, decimal, Option, Some, None, Result, Ok, Err, if◌then◌else◌}
use Rattle.text_rows.specs.Written.{text_of_row}
use Rattle.drive_kit.specs.Causes.{and_then}
use Rattle.record_cli.specs.Reading.{Files}
use Rattle.record_cli.specs.declared.answer.Answer.{Answer as Computed}
use Rattle.record_cli.specs.declared.answer.Row.{Row}
use Rattle.record_cli.specs.declared.finished.Shown.{Shown}
use Rattle.record_cli.specs.declared.finished.Shown.TheVariants as show
use Rattle.record_cli.specs.declared.status.Status.{Status}
use Rattle.record_cli.specs.declared.status.Status.TheVariants as status
use Rattle.record_cli.specs.declared.stopped.Stopped.{Stopped}
use Rattle.record_cli.specs.declared.stopped.Stopped.TheVariants as stopped
use Rattle.record_cli.specs.declared.told.Told.{Told}
use Rattle.record_cli.specs.declared.told.Told.TheVariants as told

-- a status, the text that is written with it, and what is shown beside
pub record Answer : Type 0 where
  pub status : Status
  pub text : List ℕ
  pub shown : Shown

-- this answer is that one
pub record IsThis (expected answer : Answer) : Type 0 where
  pub status : answer.status ≡ expected.status
  pub text : answer.text ≡ expected.text
  pub shown : answer.shown ≡ expected.shown

-- an answer of one row
abbrev pub one_row : Status → List (List ℕ) → Answer
one_row status fields = record { status = status; text = text_of_row fields; shown = show.Nothing }

abbrev pub usage : Answer
usage = one_row status.Usage (codes "usage" ∷ [])

abbrev pub missing : List ℕ → Answer
missing name = one_row status.Missing (codes "missing" ∷ name ∷ [])

abbrev pub too_large : List ℕ → Answer
too_large name = one_row status.TooLarge (codes "large" ∷ name ∷ [])

abbrev pub refused_place : List ℕ → ℕ → ℕ → Answer
refused_place name place cause = one_row status.SpecRefused (codes "spec" ∷ name ∷ decimal place ∷ decimal cause ∷ [])

abbrev pub refused_row : ℕ → ℕ → Answer
refused_row row cause = one_row status.InputRefused (codes "input" ∷ decimal row ∷ decimal cause ∷ [])

-- the answer for what is not refused; what is refused is answered by its refusal
abbrev pub IsAnswerOf : {X : Type 0} → (X → Answer → Type 0) → Result X Answer → Answer → Type 0
IsAnswerOf Answers (Ok x) answer = Answers x answer
IsAnswerOf Answers (Err refusal) answer = IsThis refusal answer

-- it is refused, and this is the refusal
abbrev pub IsRefused : {X : Type 0} → Result X Answer → Answer → Type 0
IsRefused (Ok x) answer = ⊥
IsRefused (Err refusal) answer = IsThis refusal answer

-- the bytes of a file that is there and within its limit
abbrev pub file_of : ℕ → List ℕ → Option (List ℕ) → Result (List ℕ) Answer
file_of limit name None = Err (missing name)
file_of limit name (Some bytes) = if nat_le (length bytes) limit then Ok bytes else Err (too_large name)

-- what a file means, and then a second one beside it: the first is judged wholly before the second
abbrev pub two_files : {A B : Type 0} → Files → List ℕ → ℕ → (List ℕ → Result A Answer) → List ℕ → ℕ → (A → List ℕ → Result B Answer) → Result B Answer
two_files files first limit meaning second second_limit meaning_beside =
    and_then (and_then (file_of limit first (files first)) meaning) (λ a. and_then (file_of second_limit second (files second)) (meaning_beside a))

-- the text of what is told, and what is shown beside
abbrev pub text_in : Told → List ℕ
text_in (told.Text text) = text
text_in (told.Driven history pass) = history
text_in (told.Ran ran) = ran.text

abbrev pub shown_in : Told → Shown
shown_in (told.Text text) = show.Nothing
shown_in (told.Driven history pass) = show.Driven pass
shown_in (told.Ran ran) = show.Ran ran

abbrev pub answer_in : Computed → Answer
answer_in computed = record { status = computed.status; text = text_in computed.told; shown = shown_in computed.told }

abbrev pub row_in : Row → Answer
row_in row = record { status = row.status; text = row.text; shown = show.Nothing }

-- this holds of the row that ended a command, unless a file could not be read or there was no memory
abbrev pub StopsWith : (Answer → Type 0) → Stopped → Type 0
StopsWith P (stopped.Refused row) = P (row_in row)
StopsWith P stopped.ReadFault = ⊤
StopsWith P stopped.NoMemory = ⊤

-- this holds of the answer, unless a file could not be read or there was no memory
abbrev pub Computes : (Answer → Type 0) → Result Computed Stopped → Type 0
Computes P (Ok computed) = P (answer_in computed)
Computes P (Err stop) = StopsWith P stop

-- what is expected is given, or its refusal, unless a file could not be read or there was no memory
abbrev pub Gives : {X : Type 0} → Result X Answer → Result X Stopped → Type 0
Gives expected (Ok x) = expected ≡ Ok x
Gives expected (Err stop) = StopsWith (IsRefused expected) stop

-- whether a file could not be read
abbrev pub is_read_fault : Stopped → Bool
is_read_fault (stopped.Refused row) = false
is_read_fault stopped.ReadFault = true
is_read_fault stopped.NoMemory = false

abbrev pub has_read_fault : {X : Type 0} → Result X Stopped → Bool
has_read_fault (Ok x) = false
has_read_fault (Err stop) = is_read_fault stop
