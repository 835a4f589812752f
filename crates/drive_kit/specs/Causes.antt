-- Why a script or a history is refused.
use Rattle.std.specs.Prelude.{◌≡◌, ℕ, List, [], ◌∷◌, ⊤, Result, Ok, Err}
use Rattle.drive_kit.specs.declared.causes.Cause.{Cause}
use Rattle.drive_kit.specs.declared.causes.Cause.TheVariants.{NoObject, BadObject, BadCaller, UnknownCall, BadArgument, TooManySnaps, BadShape, BadReply}
use Rattle.drive_kit.specs.declared.causes.RowFault.{RowFault}
use Rattle.drive_kit.specs.declared.causes.RowFault.TheVariants as row_fault
use Rattle.drive_kit.specs.declared.causes.ScriptFault.{ScriptFault}
use Rattle.drive_kit.specs.declared.causes.ScriptFault.TheVariants as text_fault

-- the number by which a cause is told
abbrev pub cause_number : Cause → ℕ
cause_number NoObject = 1
cause_number BadObject = 2
cause_number BadCaller = 3
cause_number UnknownCall = 4
cause_number BadArgument = 5
cause_number TooManySnaps = 6
cause_number BadShape = 7
cause_number BadReply = 8

-- why a text is refused: a row of it, with the number of the cause, or one row too many
pub data Refusal : Type 0 where
  RefusedRow : (row cause : ℕ) → Refusal
  RowTooMany : Refusal

-- what follows where nothing is refused
abbrev pub and_then : {A B E : Type 0} → Result A E → (A → Result B E) → Result B E
and_then (Ok a) next = next a
and_then (Err refusal) next = Err refusal

-- what is made of a part that is not refused
abbrev pub made_of : {A B E : Type 0} → (A → B) → Result A E → Result B E
made_of make (Ok a) = Ok (make a)
made_of make (Err refusal) = Err refusal

-- what a row of this number says
abbrev pub at_row : {A : Type 0} → ℕ → Result A Cause → Result A Refusal
at_row row (Ok a) = Ok a
at_row row (Err cause) = Err (RefusedRow row (cause_number cause))

-- what rows say one after another, after what was said before; or the refusal of the first that is refused
unfoldable pub read_from : {A : Type 0} → (A → List (List ℕ) → Result A Refusal) → A → List (List (List ℕ)) → Result A Refusal
read_from with_row before [] = Ok before
read_from with_row before (row ∷ rows) = and_then (with_row before row) (λ after. read_from with_row after rows)

-- what is expected of a row was told, unless there was no memory
abbrev pub Tells : {A : Type 0} → Result A Cause → Result A RowFault → Type 0
Tells expected (Ok told) = expected ≡ Ok told
Tells expected (Err (row_fault.Refused cause)) = expected ≡ Err cause
Tells expected (Err row_fault.NoMemory) = ⊤

-- the same of a text
abbrev pub TellsText : {A : Type 0} → Result A Refusal → Result A ScriptFault → Type 0
TellsText expected (Ok told) = expected ≡ Ok told
TellsText expected (Err (text_fault.Refused row cause)) = expected ≡ Err (RefusedRow row cause)
TellsText expected (Err text_fault.TooManyRows) = expected ≡ Err RowTooMany
TellsText expected (Err text_fault.NoMemory) = ⊤

-- the fault of a text whose row of this number has this one
abbrev pub fault_at : ℕ → RowFault → ScriptFault
fault_at row (row_fault.Refused cause) = text_fault.Refused row (cause_number cause)
fault_at row row_fault.NoMemory = text_fault.NoMemory

-- what is expected of a text's next row was put in the place of what was said before
abbrev pub Takes : {A : Type 0} → Result A Refusal → A → Result Unit ScriptFault → Type 0
Takes expected new (Ok u) = expected ≡ Ok new
Takes expected new (Err (text_fault.Refused row cause)) = expected ≡ Err (RefusedRow row cause)
Takes expected new (Err text_fault.TooManyRows) = expected ≡ Err RowTooMany
Takes expected new (Err text_fault.NoMemory) = ⊤
