-- A reader that goes on from row to row.
use Rattle.std.proofs.Common.{Bor, ◌≡◌, ◌++◌, ◌∙◌, ℕ, List, [], ◌∷◌, Bool, true, false, Some, inl, append_assoc}
use Rattle.csv.specs.Reading.{ReadRecord, Ready, default_config, is_flexible, reader_state, reader_trim, strip_bom, took_first}
use Rattle.csv.specs.declared.parser.State.TheVariants as st
use Rattle.csv.specs.declared.reader.Reader.{Reader}
use Rattle.csv.specs.declared.reader.Trim.TheVariants as trim
use Rattle.csv.proofs.ReadFacts.{rows-end, rows-more}
use Rattle.text_rows.specs.Readers.{GivesRow, HasRead}
use Rattle.text_rows.specs.Rows.{rows_of}
use Rattle.text_rows.proofs.ReachedLemmas.{all-reached, some-reached}

-- what one read does
pub gives_row : (bytes : List ℕ) (rows : List (List (List ℕ))) (a b : Reader (Bor (List ℕ))) (found : Bool) (fields : List (List ℕ))
    → HasRead bytes rows a → took_first b ≡ true → is_flexible b ≡ is_flexible a → (reader_trim a ≡ trim.None → Ready a → ReadRecord (λ s. Some s.now) a b found fields) → GivesRow bytes rows found fields b
gives_row bytes rows a b true fields h first flexible reads =
    let r = reads h.untrimmed h.ready in
    let more = rows-more (λ (s : Bor (List ℕ)). Some s.now) a b fields default_config st.StartRecord (strip_bom bytes) h.reached.0 rows h.config h.reached.1 h.reached.2 r in
    record { untrimmed = r.3 ∙ h.untrimmed; flexible = flexible ∙ h.flexible; ready = inl first; config = r.2 ∙ h.config; reached = more }
gives_row bytes rows a b false fields h first flexible reads =
    let r = reads h.untrimmed h.ready in
    let none = rows-end (λ (s : Bor (List ℕ)). Some s.now) a b fields default_config h.reached.0 h.config h.reached.1 r in
    all-reached bytes rows (reader_state a) h.reached.0 h.reached.2 none

-- the rows read are the first
pub some_rows : (bytes : List ℕ) (rows : List (List (List ℕ))) (fields : List (List ℕ)) (reader : Reader (Bor (List ℕ)))
    → HasRead bytes (rows ++ fields ∷ []) reader → (rest : List (List (List ℕ))) × (rows_of bytes ≡ rows ++ fields ∷ rest)
some_rows bytes rows fields reader h =
    let some = some-reached bytes (rows ++ fields ∷ []) (reader_state reader) h.reached.0 h.reached.2 in
    (some.0, some.1 ∙ append_assoc rows (fields ∷ []) some.0)
