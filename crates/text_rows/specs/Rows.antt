-- The rows of a text.
use Rattle.std.specs.Prelude.{ℕ, List}
use Rattle.csv.specs.Reading.{default_config, records, strip_bom}

-- every row of a text, as `csv` reads it by its defaults and without a header
abbrev pub rows_of : List ℕ → List (List (List ℕ))
rows_of bytes = records default_config (strip_bom bytes)
