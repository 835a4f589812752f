-- A text whose rows are being read.
use Rattle.std.specs.Prelude.{◌≡◌, ℕ, List, [], ◌∷◌, ◌++◌, Bool, true, false, Some}
use Rattle.std.specs.Borrow.{Bor}
use Rattle.csv.specs.Reading.{Reached, Ready, default_config, is_flexible, reader_config, reader_state, reader_trim, source_of, strip_bom}
use Rattle.csv.specs.declared.parser.State.TheVariants as st
use Rattle.csv.specs.declared.reader.Reader.{Reader}
use Rattle.csv.specs.declared.reader.Trim.TheVariants as trim
use Rattle.text_rows.specs.Rows.{rows_of}

-- a reader of these bytes has given these rows, and goes on behind them. It takes rows of any length
pub record HasRead (bytes : List ℕ) (rows : List (List (List ℕ))) (reader : Reader (Bor (List ℕ))) : Type 0 where
  pub untrimmed : reader_trim reader ≡ trim.None
  pub flexible : is_flexible reader ≡ true
  pub ready : Ready reader
  pub config : reader_config reader ≡ default_config
  pub reached : (left : List ℕ) × (source_of (λ s. Some s.now) reader ≡ Some left) × Reached default_config st.StartRecord (strip_bom bytes) rows (reader_state reader) left

-- it gives one more row, or there is none
abbrev pub GivesRow : List ℕ → List (List (List ℕ)) → Bool → List (List ℕ) → Reader (Bor (List ℕ)) → Type 0
GivesRow bytes rows true fields reader = HasRead bytes (rows ++ fields ∷ []) reader
GivesRow bytes rows false fields reader = rows_of bytes ≡ rows
