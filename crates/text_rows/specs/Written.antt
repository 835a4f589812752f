-- The rows of an output text.
use Rattle.std.specs.Prelude.{ℕ, List, [], ◌∷◌, ◌++◌, Bool, ◌==◌, ◌||◌, map, if◌then◌else◌, ⊤}
use Rattle.std.specs.List.{flat_map, join_with_byte, list_any}

-- a comma, a quote, CR and LF call for quotes
abbrev pub calls_for_quotes : ℕ → Bool
calls_for_quotes b = (b == 44) || (b == 34) || (b == 13) || (b == 10)

-- the bytes, with each quote doubled
abbrev pub doubled : List ℕ → List ℕ
doubled [] = []
doubled (b ∷ rest) = if b == 34 then b ∷ b ∷ doubled rest else b ∷ doubled rest

-- a field: in quotes exactly where one of its bytes calls for them
abbrev pub field_text : List ℕ → List ℕ
field_text field = if list_any calls_for_quotes field then 34 ∷ (doubled field ++ 34 ∷ []) else field

-- a row: its fields joined by commas, and LF
unfoldable pub text_of_row : List (List ℕ) → List ℕ
text_of_row fields = join_with_byte 44 (map field_text fields) ++ 10 ∷ []

-- rows, one after the other
abbrev pub text_of_rows : List (List (List ℕ)) → List ℕ
text_of_rows rows = flat_map text_of_row rows

-- the first field is not empty, as in each row of an output text
abbrev pub HasWord : List (List ℕ) → Type 0
HasWord [] = ⊥
HasWord ([] ∷ rest) = ⊥
HasWord ((c ∷ word) ∷ rest) = ⊤
