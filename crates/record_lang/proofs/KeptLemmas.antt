-- The rows kept so far.
use Rattle.std.proofs.Common.{Bor, ◌≡◌, ◌≢◌, ◌++◌, ◌∙◌, ℕ, List, [], ◌∷◌, length, Some, None, Result, Ok, Err, ap, sym}
use Rattle.std.proofs.lemmas.List.{length-map, map-append}
use Rattle.std.specs.Result.{IsErrAnd}
use Rattle.csv.specs.declared.reader.Reader.{Reader}
use Rattle.text_rows.specs.Readers.{HasRead}
use Rattle.text_rows.specs.Rows.{rows_of}
use Rattle.text_rows.proofs.ReadLemmas.{some_rows}
use Rattle.record_lang.specs.Kept.{TakesRow}
use Rattle.record_lang.specs.Records.{Row}
use Rattle.record_lang.specs.Rows.{RefusedRow, RowTooMany, TellsRows, fields_in, row_fault}
use Rattle.record_lang.specs.declared.rows.InputFault.{InputFault}
use Rattle.record_lang.specs.declared.rows.InputFault.TheVariants.{Refused, TooManyRows, NoMemory}
use Rattle.record_lang.proofs.FaultLemmas.{at_fault, too_many}

many : (old : List Row) (n : ℕ) → length old ≡ n → length (fields_in old) ≡ n
many old n h = length-map old (λ r. r.fields) ∙ h

pub few : (old : List Row) → length old ≢ 200000 → length (fields_in old) ≢ 200000
few old h = λ e. h (sym (length-map old (λ r. r.fields)) ∙ e)

-- a row is there after 200,000
pub one_too_many : (bytes : List ℕ) (old : List Row) (fields : List (List ℕ)) (reader : Reader (Bor (List ℕ)))
    → HasRead bytes (fields_in old ++ fields ∷ []) reader → row_fault (fields_in old) ≡ None → length old ≡ 200000 → row_fault (rows_of bytes) ≡ Some RowTooMany
one_too_many bytes old fields reader h fine full =
    let some = some_rows bytes (fields_in old) fields reader h in
    too_many (rows_of bytes) (fields_in old) fields some.0 some.1 fine (many old 200000 full)

-- a row is not kept
pub row_refused : (bytes : List ℕ) (old new : List Row) (fields : List (List ℕ)) (reader : Reader (Bor (List ℕ))) (fault : InputFault)
    → TakesRow old fields new (Err fault) → HasRead bytes (fields_in old ++ fields ∷ []) reader → row_fault (fields_in old) ≡ None → length old ≢ 200000 → TellsRows (rows_of bytes) (Err fault)
row_refused bytes old new fields reader NoMemory h read fine fewer = tt
row_refused bytes old new fields reader TooManyRows h read fine fewer = absurd h
row_refused bytes old new fields reader (Refused i c) h read fine fewer =
    let some = some_rows bytes (fields_in old) fields reader read in
    let here : length (fields_in old) ≡ i = length-map old (λ r. r.fields) ∙ sym h.0 in
    at_fault (rows_of bytes) (fields_in old) fields some.0 c some.1 fine (few old fewer) h.1 ∙ ap (λ (k : ℕ). Some (RefusedRow k c)) here

-- a row is kept
pub row_kept : (old new : List Row) (fields : List (List ℕ)) → new ≡ old ++ record { number = length old; fields = fields } ∷ [] → fields_in new ≡ fields_in old ++ fields ∷ []
row_kept old new fields h = ap fields_in h ∙ map-append (λ r. r.fields) old (record { number = length old; fields = fields } ∷ [])

-- an error that is passed on
pub passed_on : (rows : List (List (List ℕ))) (result : Result (List Row) InputFault) (fault : InputFault) → IsErrAnd result (λ e. e ≡ fault) → TellsRows rows (Err fault) → TellsRows rows result
passed_on rows (Ok records) fault h tells = absurd h
passed_on rows (Err e) fault h tells = rw h tells
