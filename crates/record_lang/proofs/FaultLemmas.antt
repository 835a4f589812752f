-- Why rows are refused, and what one more row does.
use Rattle.std.proofs.Common.{◌≡◌, ◌≢◌, ◌+◌, ◌++◌, ◌∙◌, ℕ, suc, List, [], ◌∷◌, length, Bool, true, false, Option, Some, None, option_map, refl, ap, sym, arith, eqb, if◌then◌else◌, ◌==◌}
use Rattle.std.proofs.lemmas.List.{length-map}
use Rattle.std.proofs.lemmas.Bool.Decides.{nat_tests}
use Rattle.record_lang.specs.Records.{Row}
use Rattle.record_lang.specs.Rows.{RowsRefusal, RefusedRow, RowTooMany, fault_from, fields_in, numbered_from, refused_or, row_cause, row_cause_number, row_fault, width_of}
use Rattle.record_lang.specs.declared.rows.RowCause.{RowCause}

past-step : (b : Bool) (i : ℕ) (c : Option RowCause) (x y z : Option RowsRefusal) → (if b then Some RowTooMany else refused_or i c x) ≡ None → (x ≡ None → y ≡ z) → (if b then Some RowTooMany else refused_or i c y) ≡ z
past-step true i c x y z h f = cc
past-step false i None x y z h f = f h
past-step false i (Some c) x y z h f = cc

-- rows that are not refused, and then more rows
pub fault-past : (rows more : List (List (List ℕ))) (i w : ℕ) → fault_from i w rows ≡ None → fault_from i w (rows ++ more) ≡ fault_from (i + length rows) w more
fault-past [] more i w h = let e : i ≡ i + 0 = omega arith in ap (λ k. fault_from k w more) e
fault-past (r ∷ rows) more i w h =
    let e : i + 1 + length rows ≡ i + suc (length rows) = omega arith in
    past-step (i == 200000) i (row_cause w r) (fault_from (i + 1) w rows) (fault_from (i + 1) w (rows ++ more)) (fault_from (i + suc (length rows)) w more) h
    (λ e1. fault-past rows more (i + 1) w e1 ∙ ap (λ k. fault_from k w more) e)

-- rows that are not refused, by the width that row 0 gives or will give
pub width-past : (rows more : List (List (List ℕ))) → fault_from 0 (width_of rows) rows ≡ None → fault_from 0 (width_of (rows ++ more)) rows ≡ None
width-past [] more h = refl
width-past (r ∷ rows) more h = h

width-same : (rows : List (List (List ℕ))) (row : List (List ℕ)) (rest : List (List (List ℕ))) → width_of (rows ++ row ∷ rest) ≡ width_of (rows ++ row ∷ [])
width-same [] row rest = refl
width-same (r ∷ rows) row rest = refl

-- where rows are not refused, the next row decides
next-fault : (rows : List (List (List ℕ))) (row : List (List ℕ)) (rest : List (List (List ℕ))) → row_fault rows ≡ None
    → row_fault (rows ++ row ∷ rest) ≡ fault_from (length rows) (width_of (rows ++ row ∷ [])) (row ∷ rest)
next-fault rows row rest fine =
    let same = width-same rows row rest in
    let here : 0 + length rows ≡ length rows = omega arith in
    fault-past rows (row ∷ rest) 0 (width_of (rows ++ row ∷ rest)) (width-past rows (row ∷ rest) fine) ∙ rw (same, here) refl

numbered-push : (rows : List (List (List ℕ))) (row : List (List ℕ)) (n : ℕ) → numbered_from n (rows ++ row ∷ []) ≡ numbered_from n rows ++ record { number = n + length rows; fields = row } ∷ []
numbered-push [] row n = let e : n ≡ n + 0 = omega arith in ap (λ (k : ℕ). let r : Row = record { number = k; fields = row } in r ∷ []) e
numbered-push (r ∷ rows) row n =
    let e : n + 1 + length rows ≡ n + suc (length rows) = omega arith in
    ap (λ z. let r0 : Row = record { number = n; fields = r } in r0 ∷ z) (numbered-push rows row (n + 1) ∙ ap (λ (k : ℕ). let q : Row = record { number = k; fields = row } in numbered_from (n + 1) rows ++ q ∷ []) e)

-- one more record
pub numbered_more : (records : List Row) (fields : List (List ℕ)) → records ≡ numbered_from 0 (fields_in records)
    → records ++ record { number = length records; fields = fields } ∷ [] ≡ numbered_from 0 (fields_in records ++ fields ∷ [])
numbered_more records fields h =
    let e : length records ≡ 0 + length (fields_in records) = omega (arith, length-map records (λ r. r.fields)) in
    ap (λ (z : List Row). let q : Row = record { number = length records; fields = fields } in z ++ q ∷ []) h
    ∙ ap (λ (k : ℕ). let q : Row = record { number = k; fields = fields } in numbered_from 0 (fields_in records) ++ q ∷ []) e
    ∙ sym (numbered-push (fields_in records) fields 0)

-- row 200,000 is one too many
pub too_many : (all rows : List (List (List ℕ))) (row : List (List ℕ)) (rest : List (List (List ℕ))) → all ≡ rows ++ row ∷ rest → row_fault rows ≡ None → length rows ≡ 200000 → row_fault all ≡ Some RowTooMany
too_many all rows row rest is fine many = rw is (next-fault rows row rest fine ∙ rw many refl)

refused-here : (i c : ℕ) (found : Option RowCause) (later : Option RowsRefusal) → option_map row_cause_number found ≡ Some c → refused_or i found later ≡ Some (RefusedRow i c)
refused-here i c None later h = cc
refused-here i c (Some why) later h = ap (λ (o : Option ℕ). option_map (λ n. RefusedRow i n) o) h

-- the next row is refused
pub at_fault : (all rows : List (List (List ℕ))) (row : List (List ℕ)) (rest : List (List (List ℕ))) (c : ℕ) → all ≡ rows ++ row ∷ rest → row_fault rows ≡ None → length rows ≢ 200000
    → option_map row_cause_number (row_cause (width_of (rows ++ row ∷ [])) row) ≡ Some c → row_fault all ≡ Some (RefusedRow (length rows) c)
at_fault all rows row rest c is fine few why =
    let no : eqb (length rows) 200000 ≡ false = grind (arith, nat_tests) in
    rw is (next-fault rows row rest fine ∙ rw no (refused-here (length rows) c (row_cause (width_of (rows ++ row ∷ [])) row) _ why))

-- nor is the next row
pub no_fault : (rows : List (List (List ℕ))) (row : List (List ℕ)) → row_fault rows ≡ None → length rows ≢ 200000
    → row_cause (width_of (rows ++ row ∷ [])) row ≡ None → row_fault (rows ++ row ∷ []) ≡ None
no_fault rows row fine few why =
    let no : eqb (length rows) 200000 ≡ false = grind (arith, nat_tests) in
    next-fault rows row [] fine ∙ rw (no, why) refl
