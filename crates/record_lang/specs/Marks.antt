-- The mark of a record, and the record of a mark.
use Rattle.std.specs.Prelude.{ℕ, zero, suc, List, [], ◌∷◌, ◌≡◌, length, take, drop, Option, Some, None, option_map}
use Rattle.std.specs.List.{flat_map}
use Rattle.ho_base.specs.Marks.{Mark}
use Rattle.record_lang.specs.Records.{Row}

-- the number, the count of the fields, and for each field its length and its bytes
abbrev pub mark_of : Row → Mark
mark_of row = row.number ∷ length row.fields ∷ flat_map (λ field. length field ∷ field) row.fields

-- this many fields, each behind its length, and no more
abbrev pub fields_from : ℕ → List ℕ → Option (List (List ℕ))
fields_from zero [] = Some []
fields_from zero (n ∷ rest) = None
fields_from (suc count) [] = None
fields_from (suc count) (n ∷ rest) = option_map (λ fields. take n rest ∷ fields) (fields_from count (drop n rest))

-- the record that has a mark
abbrev pub row_of_mark : Mark → Option Row
row_of_mark [] = None
row_of_mark (number ∷ []) = None
row_of_mark (number ∷ count ∷ rest) = option_map (λ fields. record { number = number; fields = fields }) (fields_from count rest)

-- a mark tells the record whole
abbrev pub MarksTellRecords : Type 0
MarksTellRecords = (row : Row) → row_of_mark (mark_of row) ≡ Some row
