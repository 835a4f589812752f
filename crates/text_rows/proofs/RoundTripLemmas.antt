-- A text of rows, read with more turns than it has rows.
use Rattle.std.proofs.Common.{◌≡◌, ℕ, suc, zero, ◌+◌, ◌-◌, ◌≤◌, List, [], ◌∷◌, ◌++◌, All, refl, ap, ◌∙◌, arith, length, length-append, map}
use Rattle.std.specs.List.{join_with_byte}
use Rattle.csv.specs.Reading.{default_config, records, records_from}
use Rattle.csv.specs.Machine.{next_record}
use Rattle.csv.specs.Writing as Csv
use Rattle.csv.specs.declared.parser.State.TheVariants as st
use Rattle.csv.proofs.RoundTrip.{read-write}
use Rattle.text_rows.specs.RoundTrip.{TextsTellRows}
use Rattle.text_rows.specs.Written.{HasWord, field_text, text_of_row, text_of_rows}
use Rattle.text_rows.proofs.WrittenLemmas.{csv_line}

none_left : (k : ℕ) → records_from default_config k st.StartRecord [] ≡ []
unfolding records_from next_record
none_left zero = refl
none_left (suc k) = refl

nothing_more : (k : ℕ) → length {A = List (List ℕ)} [] + k ≡ k
nothing_more k = omega arith

one_more : (row : List (List ℕ)) (rows : List (List (List ℕ))) (k : ℕ) → length (row ∷ rows) + k ≡ suc (length rows + k)
one_more row rows k = omega arith

-- rows of any length may follow one another, which changes nothing of a row
same-row : (fields : List (List ℕ)) → HasWord fields → Csv.row_text Csv.default_writer fields ≡ text_of_row fields
unfolding Csv.escaped Csv.fields_text Csv.is_blank
same-row fields h = csv_line fields h

-- a row is read, and the text behind it is left
row-read : (row : List (List ℕ)) (rest : List ℕ) (k : ℕ) → HasWord row → records_from default_config (suc k) st.StartRecord (text_of_row row ++ rest) ≡ row ∷ records_from default_config k st.StartRecord rest
unfolding records_from
row-read [] rest k h = absurd h
row-read ([] ∷ row) rest k h = absurd h
row-read ((c ∷ word) ∷ row) rest k h =
    let e = same-row ((c ∷ word) ∷ row) h in
    rw (← e, read-write ((c ∷ word) ∷ row) rest) refl

with_more : (rows : List (List (List ℕ))) (k : ℕ) → All HasWord rows → records_from default_config (length rows + k) st.StartRecord (text_of_rows rows) ≡ rows
unfolding records_from
with_more [] k are = ap (λ (n : ℕ). records_from default_config n st.StartRecord []) (nothing_more k) ∙ none_left k
with_more (row ∷ rows) k are =
    ap (λ (n : ℕ). records_from default_config n st.StartRecord (text_of_row row ++ text_of_rows rows)) (one_more row rows k)
    ∙ row-read row (text_of_rows rows) (length rows + k) (are 0 row (omega arith))
    ∙ ap (λ (t : List (List (List ℕ))). row ∷ t) (with_more rows k (λ i d h. are (suc i) d (omega (arith, h))))

row_is_long : (row : List (List ℕ)) → 1 ≤ length (text_of_row row)
unfolding text_of_row
row_is_long row = let l = length-append (join_with_byte 44 (map field_text row)) (10 ∷ []) in omega (arith, l)

text_is_long : (rows : List (List (List ℕ))) → length rows ≤ length (text_of_rows rows)
text_is_long [] = omega arith
text_is_long (row ∷ rows) = let a = length-append (text_of_row row) (text_of_rows rows) in let b = row_is_long row in let c = text_is_long rows in omega arith

pub texts_tell : TextsTellRows
texts_tell rows are unmarked =
    let l = text_is_long rows in
    let k : ℕ = length (text_of_rows rows) + 1 - length rows in
    let e : length (text_of_rows rows) + 1 ≡ length rows + k = omega arith in
    ap (records default_config) unmarked ∙ ap (λ (n : ℕ). records_from default_config n st.StartRecord (text_of_rows rows)) e ∙ with_more rows k are
