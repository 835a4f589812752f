-- Rows read one after another.
use Rattle.std.proofs.Common.{Bor, ◌≡◌, ◌++◌, ◌∙◌, ℕ, List, [], ◌∷◌, Bool, true, false, Result, Ok, Err, refl, ap, if◌then◌else◌, append_assoc}
use Rattle.csv.specs.declared.reader.Reader.{Reader}
use Rattle.text_rows.specs.Readers.{HasRead}
use Rattle.text_rows.specs.Rows.{rows_of}
use Rattle.text_rows.proofs.ReadLemmas.{some_rows}
use Rattle.drive_kit.specs.Causes.{Refusal, RowTooMany, and_then, made_of, read_from}

-- what a chain of two steps gives went by the first
pub and_then_ok : {A B E : Type 0} (first : Result A E) (next : A → Result B E) (b : B) → and_then first next ≡ Ok b → (a : A) × (first ≡ Ok a) × (next a ≡ Ok b)
and_then_ok (Ok a) next b h = (a, refl, h)
and_then_ok (Err e) next b h = cc

pub made_of_ok : {A B E : Type 0} (make : A → B) (first : Result A E) (b : B) → made_of make first ≡ Ok b → (a : A) × (first ≡ Ok a) × (make a ≡ b)
made_of_ok make (Ok a) b h = (a, refl, cc)
made_of_ok make (Err e) b h = cc

-- a step below a limit
pub within_limit : {A B : Type 0} (full : Bool) (make : A → B) (made : Result A Refusal) (new : B) → (if full then Err RowTooMany else made_of make made) ≡ Ok new → (full ≡ false) × (a : A) × (made ≡ Ok a) × (make a ≡ new)
within_limit true make made new h = cc
within_limit false make made new h = let by = made_of_ok make made new h in (refl, by.0, by.1, by.2)

-- rows, and then more
pub read_from-append : {A : Type 0} (step : A → List (List ℕ) → Result A Refusal) (before kept : A) (rows more : List (List (List ℕ))) → read_from step before rows ≡ Ok kept → read_from step before (rows ++ more) ≡ read_from step kept more
unfolding read_from
read_from-append step before kept [] more h = let e : before ≡ kept = cc in ap (λ b. read_from step b more) e
read_from-append step before kept (row ∷ rows) more h =
    let by = and_then_ok (step before row) (λ after. read_from step after rows) kept h in
    rw by.1 (read_from-append step by.0 kept rows more by.2)

read_from-one : {A : Type 0} (step : A → List (List ℕ) → Result A Refusal) (before after : A) (row : List (List ℕ)) → step before row ≡ Ok after → read_from step before (row ∷ []) ≡ Ok after
unfolding read_from
read_from-one step before after row h = rw h refl

read_from-refused : {A : Type 0} (step : A → List (List ℕ) → Result A Refusal) (before : A) (refusal : Refusal) (row : List (List ℕ)) (rows : List (List (List ℕ))) → step before row ≡ Err refusal → read_from step before (row ∷ rows) ≡ Err refusal
unfolding read_from
read_from-refused step before refusal row rows h = rw h refl

-- Of a text some rows are read, behind the first: what they say together was kept.
pub record HasKept (A : Type 0) (step : A → List (List ℕ) → Result A Refusal) (start : A) (first : List (List (List ℕ))) (bytes : List ℕ) (reader : Reader (Bor (List ℕ))) (said : A) : Type 0 where
  pub rows : List (List (List ℕ))
  pub read : HasRead bytes (first ++ rows) reader
  pub kept : read_from step start rows ≡ Ok said

-- no row yet behind the first
pub has_kept_none : (A : Type 0) (step : A → List (List ℕ) → Result A Refusal) (start : A) (first : List (List (List ℕ))) (bytes : List ℕ) (reader : Reader (Bor (List ℕ))) → HasRead bytes (first ++ []) reader → HasKept A step start first bytes reader start
unfolding read_from
has_kept_none A step start first bytes reader read = record { rows = []; read = read; kept = refl }

module _ (A : Type 0) (step : A → List (List ℕ) → Result A Refusal) (start : A) (first : List (List (List ℕ))) (bytes : List ℕ) where
  -- one row more
  pub has_kept_more : (before after : Reader (Bor (List ℕ))) (said more : A) (row : List (List ℕ)) (h : HasKept A step start first bytes before said) → HasRead bytes ((first ++ h.rows) ++ row ∷ []) after → step said row ≡ Ok more → HasKept A step start first bytes after more
  has_kept_more before after said more row h read stepped = record {
    rows = h.rows ++ row ∷ [];
    read = rw append_assoc at read;
    kept = read_from-append step start said h.rows (row ∷ []) h.kept ∙ read_from-one step said more row stepped;
  }

  -- the next row is refused
  pub has_kept_refused : (before after : Reader (Bor (List ℕ))) (said : A) (row : List (List ℕ)) (refusal : Refusal) (h : HasKept A step start first bytes before said) → HasRead bytes ((first ++ h.rows) ++ row ∷ []) after → step said row ≡ Err refusal
      → (rest : List (List (List ℕ))) × (rows_of bytes ≡ first ++ rest) × (read_from step start rest ≡ Err refusal)
  has_kept_refused before after said row refusal h read stepped =
      let some = some_rows bytes (first ++ h.rows) row after read in (
        h.rows ++ row ∷ some.0,
        some.1 ∙ append_assoc first h.rows (row ∷ some.0),
        read_from-append step start said h.rows (row ∷ some.0) h.kept ∙ read_from-refused step said refusal row some.0 stepped,
      )
