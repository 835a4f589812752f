-- A text of rows is read as the rows that were written.
use Rattle.std.specs.Prelude.{◌≡◌, ℕ, List, All}
use Rattle.csv.specs.Reading.{strip_bom}
use Rattle.text_rows.specs.Rows.{rows_of}
use Rattle.text_rows.specs.Written.{HasWord, text_of_rows}

-- no byte order mark stands at the head of the text, which a reader would pass over
abbrev pub IsUnmarked : List ℕ → Type 0
IsUnmarked text = strip_bom text ≡ text

abbrev pub TextsTellRows : Type 0
TextsTellRows = (rows : List (List (List ℕ))) → All HasWord rows → IsUnmarked (text_of_rows rows) → rows_of (text_of_rows rows) ≡ rows
