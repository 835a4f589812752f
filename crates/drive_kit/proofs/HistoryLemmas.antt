-- The text of a history, one row after another.
use Rattle.std.proofs.Common.{Bor, ◌≡◌, ◌≢◌, ◌+◌, ◌++◌, ◌∙◌, ◌==◌, ℕ, List, [], ◌∷◌, length, eqb, true, false, Ok, Err, ap, sym, arith}
use Rattle.std.proofs.lemmas.Bool.Decides.{nat_tests}
use Rattle.std.proofs.lemmas.List.{length-append}
use Rattle.csv.specs.declared.reader.Reader.{Reader}
use Rattle.ho_model.specs.declared.objects.Object.{Object}
use Rattle.ho_model.specs.declared.histories.Entry.{Entry}
use Rattle.text_rows.specs.Readers.{HasRead}
use Rattle.drive_kit.specs.Calls.{kind_of}
use Rattle.drive_kit.specs.Causes.{RefusedRow, RowTooMany, Takes, TellsText, at_row, read_from}
use Rattle.drive_kit.specs.Histories.{entry_of_row, history_in, row_of_entry, rows_from, with_entry}
use Rattle.drive_kit.specs.declared.calls.Kind.{Kind}
use Rattle.drive_kit.specs.declared.causes.ScriptFault.{ScriptFault}
use Rattle.drive_kit.specs.declared.causes.ScriptFault.TheVariants as text_fault
use Rattle.drive_kit.proofs.ReadingLemmas.{HasKept, has_kept_refused, within_limit}

-- one entry more, of which there is room
pub entry_more : (kind : Kind) (old new : List Entry) (fields : List (List ℕ)) → with_entry kind old fields ≡ Ok new → (length old ≢ 20000) × (length new ≡ length old + 1)
unfolding with_entry
entry_more kind old new fields h =
    let said = at_row (length old) (entry_of_row kind (length old) fields) in
    let step = within_limit (length old == 20000) (λ (e : Entry). old ++ e ∷ []) said new h in
    let few : length old ≢ 20000 = λ e. let full : eqb (length old) 20000 ≡ true = grind (arith, nat_tests) in let no : true ≡ false = sym full ∙ step.0 in cc in
    (few, ap length (sym step.3) ∙ length-append old (step.1 ∷ []))

-- a row is refused
pub row_refused : (object : Object) (bytes : List ℕ) (row : List (List ℕ)) (said new : List Entry) (before after : Reader (Bor (List ℕ))) (fault : ScriptFault)
    → (h : HasKept (List Entry) (with_entry (kind_of object)) [] [] bytes before said) → HasRead bytes (h.rows ++ row ∷ []) after → Takes (with_entry (kind_of object) said row) new (Err fault) → TellsText {A = List Entry} (history_in object bytes) (Err fault)
row_refused object bytes row said new before after (text_fault.Refused at cause) h read tells =
    let some = has_kept_refused (List Entry) (with_entry (kind_of object)) [] [] bytes before after said row (RefusedRow at cause) h read tells in
    ap (read_from (with_entry (kind_of object)) []) some.1 ∙ some.2
row_refused object bytes row said new before after text_fault.TooManyRows h read tells =
    let some = has_kept_refused (List Entry) (with_entry (kind_of object)) [] [] bytes before after said row RowTooMany h read tells in
    ap (read_from (with_entry (kind_of object)) []) some.1 ∙ some.2
row_refused object bytes row said new before after text_fault.NoMemory h read tells = tt

-- one row more of a text that is written
pub rows_push : (number : ℕ) (es : List Entry) (e : Entry) → rows_from number (es ++ e ∷ []) ≡ rows_from number es ++ row_of_entry (number + length es) e ∷ []
rows_push number [] e = let none : number ≡ number + 0 = omega arith in ap (λ (n : ℕ). row_of_entry n e ∷ []) none
rows_push number (first ∷ es) e =
    let same : number + 1 + length es ≡ number + length (first ∷ es) = omega arith in
    ap (λ z. row_of_entry number first ∷ z) (rows_push (number + 1) es e ∙ ap (λ (n : ℕ). rows_from (number + 1) es ++ row_of_entry n e ∷ []) same)
