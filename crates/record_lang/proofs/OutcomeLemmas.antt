-- What becomes of a record, one stage at a time.
use Rattle.std.proofs.Common.{◌≡◌, ◌<◌, ◌≤◌, ◌+◌, ◌++◌, ◌∙◌, ℕ, suc, List, [], ◌∷◌, length, take, drop, get_or, Bool, true, false, Some, is_some, slice_get, refl, ap, sym, arith}
use Rattle.std.proofs.Math.Seq.{take-length}
use Rattle.std.proofs.lemmas.List.{drop_more, drop_all, length-take-le, take-append-drop, take_more}
use Rattle.std.proofs.lemmas.Option.{get_or_from_slice_get, slice_get_within}
use Rattle.record_lang.specs.Records.{Row}
use Rattle.record_lang.specs.Outcomes.{StagesMakeOutcomes, goes_on as goes_on_to, outcome_from, record_outcome, row_after, row_in, stage_outcome}
use Rattle.record_lang.specs.declared.pipelines.Stage.{Stage}
use Rattle.record_lang.specs.declared.outcomes.Outcome.{Outcome}
use Rattle.record_lang.specs.declared.outcomes.Outcome.TheVariants as to

outcome-cons : (s : Stage) (stages : List Stage) (j : ℕ) (row : Row) → outcome_from (s ∷ stages) j (to.Result row) ≡ outcome_from stages (j + 1) (stage_outcome s j row)
unfolding outcome_from
outcome-cons s stages j row = refl

-- one more stage
pub outcome_more : (stages : List Stage) (i : ℕ) (s : Stage) (row : Row) → i < length stages → outcome_from (drop i stages) (i + 1) (to.Result row) ≡ outcome_from (drop (i + 1) stages) (i + 1 + 1) (stage_outcome (get_or stages i s) (i + 1) row)
outcome_more stages i s row h = ap (λ z. outcome_from z (i + 1) (to.Result row)) (drop_more stages i s h) ∙ outcome-cons (get_or stages i s) (drop (i + 1) stages) (i + 1) row

pub outcome_none : (j : ℕ) (o : Outcome) → outcome_from [] j o ≡ o
unfolding outcome_from
outcome_none j o = refl

-- a record that was refused or filtered goes to no later stage
pub outcome_stays : (stages : List Stage) (j : ℕ) (o : Outcome) → ((row : Row) → o ≡ to.Result row → ⊥) → outcome_from stages j o ≡ o
unfolding outcome_from
outcome_stays [] j o h = refl
outcome_stays (s ∷ stages) j (to.Result row) h = absurd (h row refl)
outcome_stays (s ∷ stages) j (to.Refused number at cause) h = refl
outcome_stays (s ∷ stages) j (to.Filtered number) h = refl

-- the same, of what the next stage gave
pub goes_on : (stages : List Stage) (i : ℕ) (s : Stage) (row : Row) (o all : Outcome) → i < length stages → s ≡ get_or stages i s → o ≡ stage_outcome s (i + 1) row → outcome_from (drop i stages) (i + 1) (to.Result row) ≡ all → outcome_from (drop (i + 1) stages) (i + 1 + 1) o ≡ all
goes_on stages i s row o all h here is so_far =
    ap (outcome_from (drop (i + 1) stages) (i + 1 + 1)) (is ∙ ap (λ (z : Stage). stage_outcome z (i + 1) row) here) ∙ sym (outcome_more stages i s row h) ∙ so_far

pub is_all : (stages : List Stage) (i : ℕ) (row : Row) (all : Outcome) → length stages ≤ i → outcome_from (drop i stages) (i + 1) (to.Result row) ≡ all → to.Result row ≡ all
is_all stages i row all h so_far = sym (ap (λ z. outcome_from z (i + 1) (to.Result row)) (drop_all i stages h) ∙ outcome_none (i + 1) (to.Result row)) ∙ so_far

-- stages, and then more stages
outcome-append : (xs ys : List Stage) (j : ℕ) (o : Outcome) → outcome_from (xs ++ ys) j o ≡ outcome_from ys (j + length xs) (outcome_from xs j o)
unfolding outcome_from
outcome-append [] ys j o = let e : j ≡ j + 0 = omega arith in ap (λ (k : ℕ). outcome_from ys k o) e
outcome-append (s ∷ xs) ys j (to.Result row) =
    let e : j + 1 + length xs ≡ j + suc (length xs) = omega arith in
    outcome-append xs ys (j + 1) (stage_outcome s j row) ∙ ap (λ (k : ℕ). outcome_from ys k (outcome_from xs (j + 1) (stage_outcome s j row))) e
outcome-append (s ∷ xs) ys j (to.Refused number at cause) = sym (outcome_stays ys (j + suc (length xs)) (to.Refused number at cause) (λ row e. cc))
outcome-append (s ∷ xs) ys j (to.Filtered number) = sym (outcome_stays ys (j + suc (length xs)) (to.Filtered number) (λ row e. cc))

result_is : (o : Outcome) (row : Row) → row_in o ≡ Some row → o ≡ to.Result row
result_is (to.Result r) row h = ap to.Result (let e : r ≡ row = cc in e)
result_is (to.Refused number at cause) row h = cc
result_is (to.Filtered number) row h = cc

no_result : (o : Outcome) → is_some (row_in o) ≡ false → (row : Row) → o ≡ to.Result row → ⊥
no_result o h row is = let e : ◌≡◌ {A = Bool} true false = rw is at h in cc

one-stage : (s : Stage) (j : ℕ) (row : Row) → outcome_from (s ∷ []) j (to.Result row) ≡ stage_outcome s j row
one-stage s j row = outcome-cons s [] j row ∙ outcome_none (j + 1) (stage_outcome s j row)

next-stage : (stages : List Stage) (j : ℕ) (what : Stage) (row now : Row) → slice_get stages j ≡ Some what → row_after stages j row ≡ Some now → record_outcome (take (j + 1) stages) row ≡ stage_outcome what (j + 1) now
next-stage stages j what row now there after =
    let lt = slice_get_within stages j what there in
    let here = get_or_from_slice_get stages j what what there in
    let count : 1 + length (take j stages) ≡ j + 1 = omega (arith, lt, length-take-le j stages (omega (arith, lt))) in
    ap (λ z. record_outcome z row) (take_more stages j what lt ∙ ap (λ z. take j stages ++ z ∷ []) here)
    ∙ outcome-append (take j stages) (what ∷ []) 1 (to.Result row)
    ∙ ap (λ z. outcome_from (what ∷ []) (1 + length (take j stages)) z) (result_is (record_outcome (take j stages) row) now after)
    ∙ ap (λ (k : ℕ). outcome_from (what ∷ []) k (to.Result now)) count
    ∙ one-stage what (j + 1) now

no-more-stage : (stages : List Stage) (j : ℕ) (row : Row) → goes_on_to stages j row ≡ false → record_outcome (take j stages) row ≡ record_outcome stages row
no-more-stage stages j row h =
    sym (outcome_stays (drop j stages) (1 + length (take j stages)) (record_outcome (take j stages) row) (no_result (record_outcome (take j stages) row) h))
    ∙ sym (outcome-append (take j stages) (drop j stages) 1 (to.Result row))
    ∙ ap (λ z. record_outcome z row) (take-append-drop j stages)

pub stage_by_stage : StagesMakeOutcomes
stage_by_stage =
    record {
      first = λ stages row. ap row_in (outcome_none 1 (to.Result row));
      next = next-stage;
      ended = no-more-stage;
      last = λ stages row now h. ap (λ z. record_outcome z row) (sym (take-length stages)) ∙ result_is (record_outcome (take (length stages) stages) row) now h;
    }
