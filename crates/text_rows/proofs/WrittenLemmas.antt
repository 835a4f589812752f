-- A row of an output text is what `csv` writes.
use Rattle.std.proofs.Common.{◌≡◌, ◌≢◌, Some, Vec, Global, ◌∙◌, ◌++◌, ◌||◌, ◌==◌, not, ℕ, List, [], ◌∷◌, map, Bool, true, false, refl, ap, sym, arith, inl, inr}
use Rattle.std.specs.List.{join_with_byte, list_any}
use Rattle.std.proofs.lemmas.Bool.{cases_Bool}
use Rattle.std.proofs.lemmas.Bool.Decides.{nat_tests}
use Rattle.std.proofs.lemmas.List.{append-nil}
use Rattle.std.specs.Io.KnownBytes.{Appends}
use Rattle.csv.specs.Quoting.{needs_byte}
use Rattle.csv.specs.Writing as Csv
use Rattle.csv.specs.declared.writer.QuoteStyle.TheVariants as style
use Rattle.csv.specs.declared.writer.Writer.{Writer}
use Rattle.text_rows.specs.Written.{HasWord, calls_for_quotes, doubled, field_text, text_of_row}
use Rattle.text_rows.specs.Writers.{IsReady, lines_written, row_writer}

-- the tests of a byte, as csv makes them and as ours
same-tests : (comma quote cr lf : Bool) → (comma || quote || (cr || lf) || false || false) ≡ (comma || quote || cr || lf)
same-tests true quote cr lf = refl
same-tests false true cr lf = refl
same-tests false false true lf = refl
same-tests false false false true = refl
same-tests false false false false = refl

same-byte : (b : ℕ) → needs_byte row_writer b ≡ calls_for_quotes b
same-byte b = same-tests (b == 44) (b == 34) (b == 13) (b == 10)

same-any : (field : List ℕ) → list_any (needs_byte row_writer) field ≡ list_any calls_for_quotes field
same-any [] = refl
same-any (b ∷ field) = ap (λ (t : Bool). t || list_any (needs_byte row_writer) field) (same-byte b) ∙ ap (λ (t : Bool). calls_for_quotes b || t) (same-any field)

same-doubled : (field : List ℕ) → Csv.escaped row_writer field ≡ doubled field
unfolding Csv.escaped
same-doubled [] = refl
same-doubled (b ∷ rest) =
    let later = same-doubled rest in
    elim (cases_Bool (b == 34)) [
      | inl is ↦ let quote : b ≡ 34 = grind (arith, nat_tests) in rw (is, later) (ap (λ (q : ℕ). q ∷ b ∷ doubled rest) (sym quote))
      | inr not ↦ rw (not, later) refl
    ]

same-field : (field : List ℕ) → Csv.field_text row_writer field ≡ field_text field
same-field field = let any = same-any field in let twice = same-doubled field in rw (any, twice) refl

same-fields : (first : List ℕ) (rest : List (List ℕ)) → first ++ Csv.fields_text row_writer rest ≡ join_with_byte 44 (first ∷ map field_text rest)
unfolding Csv.fields_text
same-fields first [] = append-nil first
same-fields first (field ∷ rest) = ap (λ (z : List ℕ). first ++ 44 ∷ z) (ap (λ (z : List ℕ). z ++ Csv.fields_text row_writer rest) (same-field field) ∙ same-fields (field_text field) rest)

not-blank : (c : ℕ) (word : List ℕ) (rest : List (List ℕ)) → Csv.is_blank row_writer ((c ∷ word) ∷ rest) ≡ false
unfolding Csv.is_blank
not-blank c word [] =
    elim (cases_Bool (Csv.needs_quotes row_writer (c ∷ word))) [
      | inl is ↦ rw is (grind (arith, nat_tests))
      | inr not ↦ rw not (grind (arith, nat_tests))
    ]
not-blank c word (next ∷ rest) = refl

-- for a row whose first field is not empty
pub csv_line : (fields : List (List ℕ)) → HasWord fields → Csv.row_text row_writer fields ≡ text_of_row fields
unfolding text_of_row
csv_line [] h = absurd h
csv_line ([] ∷ rest) h = absurd h
csv_line ((c ∷ word) ∷ rest) h =
    let body : Csv.row_body row_writer ((c ∷ word) ∷ rest) ≡ join_with_byte 44 (map field_text ((c ∷ word) ∷ rest)) =
    ap (λ (z : List ℕ). z ++ Csv.fields_text row_writer rest) (same-field (c ∷ word)) ∙ same-fields (field_text (c ∷ word)) rest in
    let shown = not-blank c word rest in
    rw shown (ap (λ (z : List ℕ). z ++ 10 ∷ []) body)

-- what a writer writes of such a row
pub row_written : (old new : Writer (Vec ℕ Global)) (fields : List (List ℕ)) → IsReady old → HasWord fields
    → (Csv.fields_written old ≡ 0 → Csv.has_written old ≡ false → (Csv.writer_setup old).style ≢ style.NonNumeric → Appends (lines_written old) (lines_written new) (Csv.row_text (Csv.writer_setup old) fields))
    → (text : List ℕ) → lines_written old ≡ Some text → lines_written new ≡ Some (text ++ text_of_row fields)
row_written old new fields ready word appends text so_far =
    let setup = ready.setup in
    let necessary : (Csv.writer_setup old).style ≢ style.NonNumeric = λ e. let other : ◌≡◌ style.Necessary style.NonNumeric = rw setup at e in cc in
    let more = appends ready.fields ready.wrote necessary in
    let line : Csv.row_text (Csv.writer_setup old) fields ≡ text_of_row fields = rw setup (csv_line fields word) in
    cc
