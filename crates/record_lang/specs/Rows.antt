-- The rows of a record file, and why a file is refused.
use Rattle.std.specs.Prelude.{◌≡◌, ◌+◌, ℕ, List, [], ◌∷◌, ⊤, map, length, nat_lt, ◌==◌, not, Option, Some, None, if◌then◌else◌, Result, Ok, Err}
use Rattle.std.specs.List.{sum_by}
use Rattle.record_lang.specs.Records.{Row}
use Rattle.record_lang.specs.declared.rows.InputFault.{InputFault}
use Rattle.record_lang.specs.declared.rows.InputFault.TheVariants.{Refused, TooManyRows, NoMemory}
use Rattle.record_lang.specs.declared.rows.RowCause.{RowCause}
use Rattle.record_lang.specs.declared.rows.RowCause.TheVariants as cause

-- rows with their numbers, from this one on
abbrev pub numbered_from : ℕ → List (List (List ℕ)) → List Row
numbered_from n [] = []
numbered_from n (fields ∷ rows) = record { number = n; fields = fields } ∷ numbered_from (n + 1) rows

-- rows without their numbers
abbrev pub fields_in : List Row → List (List (List ℕ))
fields_in = map (λ row. row.fields)

-- how many fields each row has to have: as many as row 0
abbrev pub width_of : List (List (List ℕ)) → ℕ
width_of [] = 0
width_of (row ∷ rows) = length row

-- the first cause for which a row is refused
abbrev pub row_cause : ℕ → List (List ℕ) → Option RowCause
row_cause width row =
    if not (length row == width) then Some cause.FieldCount
    else if nat_lt 64 (length row) then Some cause.TooManyFields
    else if nat_lt 4096 (sum_by length row) then Some cause.TooLong
    else None

abbrev pub row_cause_number : RowCause → ℕ
row_cause_number cause.FieldCount = 1
row_cause_number cause.TooManyFields = 2
row_cause_number cause.TooLong = 3

-- why a file is refused: a row of it, with the number of the cause, or one row too many
pub data RowsRefusal : Type 0 where
  RefusedRow : (row cause : ℕ) → RowsRefusal
  RowTooMany : RowsRefusal

-- row i is refused, or else what comes of the rows after it
abbrev pub refused_or : ℕ → Option RowCause → Option RowsRefusal → Option RowsRefusal
refused_or i None later = later
refused_or i (Some c) later = Some (RefusedRow i (row_cause_number c))

-- why rows are refused, the first of which is row i: the first refused row, or one row too many
abbrev pub fault_from : ℕ → ℕ → List (List (List ℕ)) → Option RowsRefusal
fault_from i width [] = None
fault_from i width (row ∷ rows) =
    if i == 200000 then Some RowTooMany else refused_or i (row_cause width row) (fault_from (i + 1) width rows)

-- why a file of these rows is refused, if it is
abbrev pub row_fault : List (List (List ℕ)) → Option RowsRefusal
row_fault rows = fault_from 0 (width_of rows) rows

-- the answer for a file of these rows
abbrev pub TellsRows : List (List (List ℕ)) → Result (List Row) InputFault → Type 0
TellsRows rows (Ok records) = (row_fault rows ≡ None) × (records ≡ numbered_from 0 rows)
TellsRows rows (Err NoMemory) = ⊤
TellsRows rows (Err TooManyRows) = row_fault rows ≡ Some RowTooMany
TellsRows rows (Err (Refused i c)) = row_fault rows ≡ Some (RefusedRow i c)
