-- The text of a script, one row after another.
use Rattle.std.proofs.Common.{Bor, ◌≡◌, ◌≢◌, ◌+◌, ◌++◌, ◌∙◌, ◌==◌, ℕ, List, [], ◌∷◌, length, eqb, true, false, Result, Ok, Err, refl, ap, sym, arith}
use Rattle.std.proofs.lemmas.Bool.Decides.{nat_tests}
use Rattle.std.proofs.lemmas.List.{length-append}
use Rattle.std.specs.Option.{ok_or}
use Rattle.std.specs.Result.{IsErrAnd}
use Rattle.csv.specs.declared.reader.Reader.{Reader}
use Rattle.ho_model.specs.declared.objects.Object.{Object}
use Rattle.text_rows.specs.Readers.{HasRead}
use Rattle.text_rows.specs.Rows.{rows_of}
use Rattle.text_rows.proofs.ReadLemmas.{some_rows}
use Rattle.drive_kit.specs.Calls.{kind_of}
use Rattle.drive_kit.specs.Causes.{Refusal, RefusedRow, RowTooMany, TellsText, and_then, at_row}
use Rattle.drive_kit.specs.Objects.{object_of}
use Rattle.drive_kit.specs.Plans.{Plan, snaps_in}
use Rattle.drive_kit.specs.Scripts.{begun, limited, plan_of, row_of, script_of, with_row}
use Rattle.drive_kit.specs.declared.causes.Cause.{Cause}
use Rattle.drive_kit.specs.declared.causes.Cause.TheVariants.{BadObject}
use Rattle.drive_kit.specs.declared.causes.ScriptFault.{ScriptFault}
use Rattle.drive_kit.specs.declared.causes.ScriptFault.TheVariants as text_fault
use Rattle.drive_kit.specs.declared.scripts.ScriptRow.{ScriptRow}
use Rattle.drive_kit.proofs.ReadingLemmas.{HasKept, has_kept_refused, made_of_ok, within_limit}

-- an error that is passed on
pub passed_on : {A : Type 0} (expected : Result A Refusal) (result : Result A ScriptFault) (fault : ScriptFault) → IsErrAnd result (λ e. e ≡ fault) → TellsText expected (Err fault) → TellsText expected result
passed_on expected (Ok told) fault h tells = absurd h
passed_on expected (Err e) fault h tells = rw h tells

-- a refusal that is told, or want of memory
pub told_fault : {A B : Type 0} (expected : Result A Refusal) (whole : Result B Refusal) (fault : ScriptFault) → ((refusal : Refusal) → expected ≡ Err refusal → whole ≡ Err refusal) → TellsText expected (Err fault) → TellsText whole (Err fault)
told_fault expected whole (text_fault.Refused row cause) passes tells = passes (RefusedRow row cause) tells
told_fault expected whole text_fault.TooManyRows passes tells = passes RowTooMany tells
told_fault expected whole text_fault.NoMemory passes tells = tt

at_row_ok : {A : Type 0} (row : ℕ) (said : Result A Cause) (a : A) → at_row row said ≡ Ok a → said ≡ Ok a
at_row_ok row (Ok b) a h = cc
at_row_ok row (Err cause) a h = cc

-- a script begins without rows
pub begun_empty : (first : List (List ℕ)) (plan : Plan) → at_row 0 (begun first) ≡ Ok plan → plan.rows ≡ []
begun_empty first plan h =
    let made = made_of_ok (λ (o : Object). let p : Plan = record { object = o; rows = [] } in p) (ok_or (object_of first) BadObject) plan (at_row_ok 0 (begun first) plan h) in
    sym (ap (λ (p : Plan). p.rows) made.2)

-- one row more, of which there is room
pub row_more : (old new : Plan) (fields : List (List ℕ)) → with_row old fields ≡ Ok new → (length old.rows ≢ 20000) × (length new.rows ≡ length old.rows + 1)
unfolding with_row
row_more old new fields h =
    let said = at_row (length old.rows + 1) (and_then (row_of (kind_of old.object) fields) (limited (snaps_in old.rows))) in
    let step = within_limit (length old.rows == 20000) (λ (row : ScriptRow). let p : Plan = record { object = old.object; rows = old.rows ++ row ∷ [] } in p) said new h in
    let few : length old.rows ≢ 20000 = λ e. let full : eqb (length old.rows) 20000 ≡ true = grind (arith, nat_tests) in let no : true ≡ false = sym full ∙ step.0 in cc in
    (few, ap (λ (p : Plan). length p.rows) (sym step.3) ∙ length-append old.rows (step.1 ∷ []))

-- the first row is refused
pub first_refused : (bytes : List ℕ) (first : List (List ℕ)) (reader : Reader (Bor (List ℕ))) (fault : ScriptFault) → HasRead bytes (first ∷ []) reader → TellsText (at_row 0 (begun first)) (Err fault) → TellsText (script_of bytes) (Err fault)
first_refused bytes first reader fault read tells =
    let some = some_rows bytes [] first reader read in
    told_fault (at_row 0 (begun first)) (script_of bytes) fault (λ refusal h. ap plan_of some.1 ∙ rw h refl) tells

-- a later row is refused
pub later_refused : (bytes : List ℕ) (first row : List (List ℕ)) (start said : Plan) (before after : Reader (Bor (List ℕ))) (fault : ScriptFault) → at_row 0 (begun first) ≡ Ok start → (h : HasKept Plan with_row start (first ∷ []) bytes before said) → HasRead bytes ((first ∷ h.rows) ++ row ∷ []) after → TellsText (with_row said row) (Err fault) → TellsText (script_of bytes) (Err fault)
later_refused bytes first row start said before after fault begins h read tells =
    told_fault (with_row said row) (script_of bytes) fault (λ refusal refused.
    let some = has_kept_refused Plan with_row start (first ∷ []) bytes before after said row refusal h read refused in
    ap plan_of some.1 ∙ rw begins some.2) tells

-- the last row is read
pub script_read : (bytes : List ℕ) (first : List (List ℕ)) (start said : Plan) (reader : Reader (Bor (List ℕ))) → at_row 0 (begun first) ≡ Ok start → (h : HasKept Plan with_row start (first ∷ []) bytes reader said) → rows_of bytes ≡ first ∷ h.rows → script_of bytes ≡ Ok said
script_read bytes first start said reader begins h all = ap plan_of all ∙ rw begins h.kept
