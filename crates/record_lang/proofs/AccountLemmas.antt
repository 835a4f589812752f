-- Each fed record has one outcome.
use Rattle.std.proofs.Common.{◌≡◌, ◌+◌, ◌++◌, ◌∙◌, ℕ, ℤ, slice_set, List, [], ◌∷◌, length, map, Bool, true, false, Option, Some, None, Result, Ok, Err, refl, ap, arith, if◌then◌else◌}
use Rattle.std.specs.Fmt.{signed_decimal}
use Rattle.std.specs.List.{count_by, remove}
use Rattle.std.proofs.lemmas.List.Sums.{sum_by-cons}
use Rattle.record_lang.specs.Accounts.{EachFedRecordIsToldOnce, IsOneOfThree}
use Rattle.record_lang.specs.Guards.{fed_rows}
use Rattle.record_lang.specs.Outcomes.{appended, kept, number_of_outcome, outcome_from, record_outcome, refused, removed, replaced, stage_outcome, with_fields}
use Rattle.record_lang.specs.Records.{Row}
use Rattle.record_lang.specs.Texts.{is_filtered, is_refused, is_result, run_outcomes}
use Rattle.record_lang.specs.declared.outcomes.Outcome.{Outcome}
use Rattle.record_lang.specs.declared.outcomes.Outcome.TheVariants as to
use Rattle.record_lang.specs.declared.outcomes.RecordCause.{RecordCause}
use Rattle.record_lang.specs.declared.outcomes.RecordCause.TheVariants as cause
use Rattle.record_lang.specs.declared.pipelines.Stage.{Stage}
use Rattle.record_lang.specs.declared.pipelines.Stage.TheVariants as stage

-- 1. An outcome is of the record that was given

either-number : (b : Bool) (x y : Outcome) (n : ℕ) → number_of_outcome x ≡ n → number_of_outcome y ≡ n → number_of_outcome (if b then x else y) ≡ n
either-number true x y n hx hy = hx
either-number false x y n hx hy = hy

with_fields-number : (fields : List (List ℕ)) (j : ℕ) (row : Row) → number_of_outcome (with_fields fields j row) ≡ row.number
with_fields-number fields j row = either-number _ (refused cause.TooLong j row) (to.Result (record { number = row.number; fields = fields })) row.number refl refl

kept-number : (keeps : Result Bool RecordCause) (j : ℕ) (row : Row) → number_of_outcome (kept keeps j row) ≡ row.number
kept-number (Err why) j row = refl
kept-number (Ok true) j row = refl
kept-number (Ok false) j row = refl

replaced-number : (at : ℕ) (found : Result ℤ RecordCause) (j : ℕ) (row : Row) → number_of_outcome (replaced at found j row) ≡ row.number
replaced-number at (Err why) j row = refl
replaced-number at (Ok z) j row = with_fields-number (slice_set row.fields at (signed_decimal z)) j row

appended-number : (found : Result (List ℕ) RecordCause) (j : ℕ) (row : Row) → number_of_outcome (appended found j row) ≡ row.number
appended-number (Err why) j row = refl
appended-number (Ok field) j row = with_fields-number (row.fields ++ field ∷ []) j row

removed-number : (at : ℕ) (found : Option (List ℕ)) (j : ℕ) (row : Row) → number_of_outcome (removed at found j row) ≡ row.number
removed-number at None j row = refl
removed-number at (Some field) j row = with_fields-number (remove row.fields at) j row

pub stage-number : (s : Stage) (j : ℕ) (row : Row) → number_of_outcome (stage_outcome s j row) ≡ row.number
stage-number (stage.Keep f relation n) j row = kept-number _ j row
stage-number (stage.Match f text) j row = kept-number _ j row
stage-number (stage.Add f n) j row = replaced-number f _ j row
stage-number (stage.Mul f n) j row = replaced-number f _ j row
stage-number (stage.Sum f g) j row = appended-number _ j row
stage-number (stage.Cat f g) j row = appended-number _ j row
stage-number (stage.Copy f) j row = appended-number _ j row
stage-number (stage.Cut f) j row = removed-number f _ j row

from-number : (stages : List Stage) (j : ℕ) (o : Outcome) → number_of_outcome (outcome_from stages j o) ≡ number_of_outcome o
unfolding outcome_from
from-number [] j o = refl
from-number (s ∷ stages) j (to.Result row) = from-number stages (j + 1) (stage_outcome s j row) ∙ stage-number s j row
from-number (s ∷ stages) j (to.Refused number at why) = refl
from-number (s ∷ stages) j (to.Filtered number) = refl

all-numbers : (stages : List Stage) (rows : List Row) → map number_of_outcome (map (record_outcome stages) rows) ≡ map (λ row. row.number) rows
all-numbers stages [] = refl
all-numbers stages (row ∷ rows) =
    ap (λ (n : ℕ). n ∷ map number_of_outcome (map (record_outcome stages) rows)) (from-number stages 1 (to.Result row)) ∙ ap (λ (ns : List ℕ). row.number ∷ ns) (all-numbers stages rows)

-- 2. It is one of three

one_of_three : (o : Outcome) → IsOneOfThree o
one_of_three (to.Result row) = refl
one_of_three (to.Refused number at why) = refl
one_of_three (to.Filtered number) = refl

count-cons : (p : Outcome → Bool) (o : Outcome) (outcomes : List Outcome) → count_by p (o ∷ outcomes) ≡ (if p o then 1 else 0) + count_by p outcomes
count-cons p o outcomes = sum_by-cons (λ x. if p x then 1 else 0) o outcomes

one-each : (o : Outcome) → (if is_result o then 1 else 0) + (if is_refused o then 1 else 0) + (if is_filtered o then 1 else 0) ≡ 1
one-each (to.Result row) = refl
one-each (to.Refused number at why) = refl
one-each (to.Filtered number) = refl

adds_up : (outcomes : List Outcome) → length outcomes ≡ count_by is_result outcomes + count_by is_refused outcomes + count_by is_filtered outcomes
adds_up [] = refl
adds_up (o ∷ outcomes) =
    let results = count-cons is_result o outcomes in
    let refusals = count-cons is_refused o outcomes in
    let filtered = count-cons is_filtered o outcomes in
    omega (arith, results, refusals, filtered, one-each o, adds_up outcomes)

pub each_told_once : EachFedRecordIsToldOnce
each_told_once pipeline rows =
    record {
      numbers = all-numbers pipeline.stages (fed_rows pipeline.guard rows);
      kinds = λ k d h. one_of_three _;
      sum = adds_up (run_outcomes pipeline rows);
    }
