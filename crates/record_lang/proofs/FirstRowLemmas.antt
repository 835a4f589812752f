-- The first refused row is the first row with a cause.
use Rattle.std.proofs.Common.{◌≡◌, ◌<◌, ◌≤◌, ◌+◌, ◌∙◌, ◌==◌, ℕ, zero, suc, List, [], ◌∷◌, length, get_or, Bool, true, false, Option, Some, None, option_map, refl, ap, arith, if◌then◌else◌}
use Rattle.std.proofs.lemmas.Bool.Decides.{nat_tests}
use Rattle.record_lang.specs.FirstRows.{RefusedRowsAreFirst}
use Rattle.record_lang.specs.Rows.{RowsRefusal, RefusedRow, RowTooMany, fault_from, refused_or, row_cause, row_cause_number, width_of}
use Rattle.record_lang.specs.declared.rows.RowCause.{RowCause}

-- what was told of rows, the first of which is row i and the first m of which have no cause
abbrev IsTold : ℕ → ℕ → List (List (List ℕ)) → ℕ → Option RowsRefusal → Type 0
IsTold i w rows m None = (m ≡ length rows) × (i + m ≤ 200000)
IsTold i w rows m (Some RowTooMany) = (i + m ≡ 200000) × (m < length rows)
IsTold i w rows m (Some (RefusedRow n c)) = (n ≡ i + m) × (m < length rows) × (n < 200000) × (option_map row_cause_number (row_cause w (get_or rows m [])) ≡ Some c)

record Ends (i w : ℕ) (rows : List (List (List ℕ))) (told : Option RowsRefusal) : Type 0 where
  count : ℕ
  fine : (k : ℕ) → k < count → row_cause w (get_or rows k []) ≡ None
  is : IsTold i w rows count told

shift : (i w : ℕ) (row : List (List ℕ)) (rows : List (List (List ℕ))) (m : ℕ) (told : Option RowsRefusal) → IsTold (i + 1) w rows m told → IsTold i w (row ∷ rows) (suc m) told
shift i w row rows m None h = (omega (arith, h.0), omega (arith, h.1))
shift i w row rows m (Some RowTooMany) h = (omega (arith, h.0), omega (arith, h.1))
shift i w row rows m (Some (RefusedRow n c)) h = (omega (arith, h.0), omega (arith, h.1), h.2, h.3)

fine-more : (w : ℕ) (row : List (List ℕ)) (rows : List (List (List ℕ))) (m : ℕ) → row_cause w row ≡ None → ((k : ℕ) → k < m → row_cause w (get_or rows k []) ≡ None) → (k : ℕ) → k < suc m → row_cause w (get_or (row ∷ rows) k []) ≡ None
fine-more w row rows m first later zero h = first
fine-more w row rows m first later (suc k) h = later k (omega (arith, h))

one-row : (i w : ℕ) (row : List (List ℕ)) (rows : List (List (List ℕ))) (b : Bool) (found : Option RowCause) (later : Option RowsRefusal) → (i == 200000) ≡ b → row_cause w row ≡ found → i ≤ 200000
    → ((i == 200000) ≡ false → Ends (i + 1) w rows later) → Ends i w (row ∷ rows) (if b then Some RowTooMany else refused_or i found later)
one-row i w row rows true found later last has few ends =
    let e : i + 0 ≡ 200000 = grind (arith, nat_tests) in
    record { count = 0; fine = λ k h. absurd (omega (arith, h)); is = (e, omega arith) }
one-row i w row rows false (Some c) later last has few ends =
    let lt : i < 200000 = grind (arith, nat_tests) in
    record { count = 0; fine = λ k h. absurd (omega (arith, h)); is = (omega arith, omega arith, lt, ap (option_map row_cause_number) has) }
one-row i w row rows false None later last has few ends =
    let e = ends last in
    record { count = suc e.count; fine = fine-more w row rows e.count has e.fine; is = shift i w row rows e.count later e.is }

all-rows : (rows : List (List (List ℕ))) (i w : ℕ) → i ≤ 200000 → Ends i w rows (fault_from i w rows)
all-rows [] i w few = record { count = 0; fine = λ k h. absurd (omega (arith, h)); is = (refl, omega (arith, few)) }
all-rows (row ∷ rows) i w few =
    one-row i w row rows (i == 200000) (row_cause w row) (fault_from (i + 1) w rows) refl refl few
    (λ before. let more : i + 1 ≤ 200000 = grind (arith, nat_tests) in all-rows rows (i + 1) w more)

pub first_rows : RefusedRowsAreFirst
first_rows =
    record {
      refused = λ rows i cause h.
          let e = all-rows rows 0 (width_of rows) (omega arith) in
          let is = rw h at e.is in
          let n : i ≡ e.count = omega (arith, is.0) in (
            record {
              there = omega (arith, n, is.1);
              allowed = is.2;
              why = ap (λ (k : ℕ). option_map row_cause_number (row_cause (width_of rows) (get_or rows k []))) n ∙ is.3;
            },
            λ k lt. e.fine k (omega (arith, n, lt)),
          );
      too_many = λ rows h.
          let e = all-rows rows 0 (width_of rows) (omega arith) in
          let is = rw h at e.is in
          (omega (arith, is.0, is.1), λ k lt. e.fine k (omega (arith, is.0, lt)));
      fine = λ rows h.
          let e = all-rows rows 0 (width_of rows) (omega arith) in
          let is = rw h at e.is in
          (omega (arith, is.0, is.1), λ k lt. e.fine k (omega (arith, is.0, lt)));
    }
