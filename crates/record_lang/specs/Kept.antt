-- What one more row of a file does.
use Rattle.std.specs.Prelude.{◌≡◌, ℕ, List, [], ◌∷◌, ◌++◌, ⊤, length, Some, None, Result, Ok, Err, option_map}
use Rattle.record_lang.specs.Records.{Row}
use Rattle.record_lang.specs.Rows.{fields_in, row_cause, row_cause_number, width_of}
use Rattle.record_lang.specs.declared.rows.InputFault.{InputFault}
use Rattle.record_lang.specs.declared.rows.InputFault.TheVariants.{Refused, TooManyRows, NoMemory}

-- a row is kept behind the others, or refused
abbrev pub TakesRow : List Row → List (List ℕ) → List Row → Result Unit InputFault → Type 0
TakesRow old fields new (Ok u) = (row_cause (width_of (fields_in old ++ fields ∷ [])) fields ≡ None) × (new ≡ old ++ record { number = length old; fields = fields } ∷ [])
TakesRow old fields new (Err NoMemory) = ⊤
TakesRow old fields new (Err TooManyRows) = ⊥
TakesRow old fields new (Err (Refused i c)) = (i ≡ length old) × (option_map row_cause_number (row_cause (width_of (fields_in old ++ fields ∷ [])) fields) ≡ Some c)
