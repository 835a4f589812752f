-- Where feeding stops.
use Rattle.std.specs.Prelude.{ℕ, List, [], ◌∷◌, Bool, false, Option, Some, None, option_map, slice_get, if◌then◌else◌}
use Rattle.std.specs.List.{list_any}
use Rattle.std.specs.Str.{bytes_eq}
use Rattle.record_lang.specs.Records.{Row}
use Rattle.record_lang.specs.declared.pipelines.Guard.{Guard}

-- a field is there and equals a text
abbrev pub is_text : List ℕ → Option (List ℕ) → Bool
is_text text None = false
is_text text (Some field) = bytes_eq field text

-- whether there is a guard, and a record meets it
abbrev pub meets : Option Guard → Row → Bool
meets None row = false
meets (Some guard) row = is_text guard.text (slice_get row.fields guard.field)

-- whether some record meets it
abbrev pub is_stopped : Option Guard → List Row → Bool
is_stopped guard rows = list_any (meets guard) rows

-- the records that are fed: those before the first that meets the guard, or all
abbrev pub fed_rows : Option Guard → List Row → List Row
fed_rows guard [] = []
fed_rows guard (row ∷ rows) = if meets guard row then [] else row ∷ fed_rows guard rows

-- the guard's code, if feeding stops
abbrev pub stop_code : Option Guard → List Row → Option ℕ
stop_code guard rows = if is_stopped guard rows then option_map (λ g. g.code) guard else None
