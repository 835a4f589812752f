-- A mark tells its record.
use Rattle.std.proofs.Common.{◌≡◌, ◌++◌, ◌∙◌, ℕ, suc, List, [], ◌∷◌, length, drop, Some, option_map, refl, ap}
use Rattle.std.specs.List.{flat_map}
use Rattle.std.proofs.Math.Seq.{drop-append_seam, take-append_seam}
use Rattle.record_lang.specs.Marks.{MarksTellRecords, fields_from}
use Rattle.record_lang.specs.Records.{Row}

fields-cons : (count : ℕ) (field rest : List ℕ) → fields_from (suc count) (length field ∷ (field ++ rest)) ≡ option_map (λ fields. field ∷ fields) (fields_from count rest)
fields-cons count field rest =
    ap (λ (z : List ℕ). option_map (λ (fields : List (List ℕ)). z ∷ fields) (fields_from count (drop (length field) (field ++ rest)))) (take-append_seam field rest)
    ∙ ap (λ (z : List ℕ). option_map (λ (fields : List (List ℕ)). field ∷ fields) (fields_from count z)) (drop-append_seam field rest)

fields-marked : (fields : List (List ℕ)) → fields_from (length fields) (flat_map (λ field. length field ∷ field) fields) ≡ Some fields
fields-marked [] = refl
fields-marked (field ∷ fields) =
    fields-cons (length fields) field (flat_map (λ field. length field ∷ field) fields) ∙ ap (option_map (λ (rest : List (List ℕ)). field ∷ rest)) (fields-marked fields)

pub marks_tell : MarksTellRecords
marks_tell row = ap (option_map (λ (fields : List (List ℕ)). let r : Row = record { number = row.number; fields = fields } in r)) (fields-marked row.fields)
