-- The first refused row.
use Rattle.std.specs.Prelude.{◌≡◌, ◌<◌, ◌≤◌, ℕ, List, [], length, Some, None, option_map, slice_index_or}
use Rattle.record_lang.specs.Rows.{RefusedRow, RowTooMany, row_cause, row_cause_number, row_fault, width_of}

-- none of the first n rows has a cause
abbrev pub AreFine : ℕ → List (List (List ℕ)) → Type 0
AreFine n rows = (k : ℕ) → k < n → row_cause (width_of rows) (slice_index_or rows k []) ≡ None

-- row i is there, is not one too many, and has this cause
pub record HasCause (rows : List (List (List ℕ))) (i cause : ℕ) : Type 0 where
  pub there : i < length rows
  pub allowed : i < 200000
  pub why : option_map row_cause_number (row_cause (width_of rows) (slice_index_or rows i [])) ≡ Some cause

pub record RefusedRowsAreFirst : Type 0 where
  -- a refused row has the told cause, and the rows before it have none
  pub refused : (rows : List (List (List ℕ))) (i cause : ℕ) → row_fault rows ≡ Some (RefusedRow i cause) → HasCause rows i cause × AreFine i rows
  -- where there is one row too many, the 200,000 before it have none
  pub too_many : (rows : List (List (List ℕ))) → row_fault rows ≡ Some RowTooMany → (200000 < length rows) × AreFine 200000 rows
  -- where none of both is told, no row has one
  pub fine : (rows : List (List (List ℕ))) → row_fault rows ≡ None → (length rows ≤ 200000) × AreFine (length rows) rows
