-- The outcomes that ended at the stages.
use Rattle.std.proofs.Common.{◌≡◌, ◌≤◌, ◌+◌, ◌∙◌, ◌||◌, ◌++◌, ℕ, List, [], ◌∷◌, Bool, true, false, eqb, not, map, refl, ap, sym, arith}
use Rattle.std.specs.List.{sum_by, filter, flat_map}
use Rattle.std.proofs.lemmas.Bool.{not-false}
use Rattle.std.proofs.lemmas.List.Sums.{sum_by-append}
use Rattle.record_lang.specs.Marks.{mark_of}
use Rattle.record_lang.specs.Outcomes.{number_of_outcome, outcome_from, record_outcome, row_in, stage_outcome}
use Rattle.record_lang.specs.Records.{Row}
use Rattle.record_lang.specs.declared.outcomes.Outcome.{Outcome}
use Rattle.record_lang.specs.declared.outcomes.Outcome.TheVariants as to
use Rattle.record_lang.specs.declared.pipelines.Stage.{Stage}
use Rattle.record_lang.proofs.AccountLemmas.{stage-number}
use Rattle.record_lang.proofs.OutcomeLemmas.{outcome_none, outcome_stays}
use Rattle.joint_reports.specs.Laws.{OutcomesAreKept, drops_in}
use Rattle.joint_reports.specs.Reports.{dropped_of, has_number, is_kept, kept_outcomes, left_of}
use Rattle.joint_reports.specs.Through.{Passage, ends, lost_numbers, off_weight}
use Rattle.joint_reports.proofs.Joints.{dropped_counts, left_counts, next_counts, next_rows, next_weighs, taken_weighs, through}
use Rattle.joint_reports.proofs.Parting.{IsJoint, among_counts, is_among, row_count}
use Rattle.joint_reports.proofs.Permutations.{same_outcomes}
use Rattle.joint_reports.proofs.Reaching.{has_mark, is_dropped, numbered_apart}
use Rattle.joint_reports.proofs.Weights.{added_weights, all_pass, filtered_weight, mapped_weight, no_weight, nothing_if, nothing_unless, same_weights, weighs_at_most, weight_if, weight_if_some}

-- 1. A record that was left goes on, or has ended

one-left : (test : ℕ → Bool) (k : Outcome → ℕ) (stages : List Stage) (j n : ℕ) (o : Outcome) → number_of_outcome o ≡ n
    → weight_if (test n) (k (outcome_from stages j o)) ≡ weight_if (test n) (off_weight k o) + weight_if_some (λ (row : Row). weight_if (test row.number) (k (outcome_from stages j (to.Result row)))) (row_in o)
one-left test k stages j n (to.Result row) e =
    let a = nothing_if (test n) in
    let b = ap (λ (m : ℕ). weight_if (test m) (k (outcome_from stages j (to.Result row)))) e in
    omega arith
one-left test k stages j n (to.Refused number at cause) e = let a = ap (λ z. weight_if (test n) (k z)) (outcome_stays stages j (to.Refused number at cause) (λ row e. cc)) in omega arith
one-left test k stages j n (to.Filtered number) e = let a = ap (λ z. weight_if (test n) (k z)) (outcome_stays stages j (to.Filtered number) (λ row e. cc)) in omega arith

module _ (what : Stage) (j : ℕ) (numbers : List ℕ) (rows : List Row) where
  abbrev left : List Row
  left = left_of numbers rows

  -- what ended at the stage, by number
  abbrev ended_weight : (ℕ → Bool) → (Outcome → ℕ) → Row → ℕ
  ended_weight test k row = weight_if (test row.number) (off_weight k (stage_outcome what j row))

  all-left : (test : ℕ → Bool) (k : Outcome → ℕ) (stages : List Stage)
      → sum_by (λ row. weight_if (test row.number) (k (outcome_from stages (j + 1) (stage_outcome what j row)))) left ≡ sum_by (ended_weight test k) left + sum_by (λ now. weight_if (test now.number) (k (outcome_from stages (j + 1) (to.Result now)))) (next_rows what j numbers rows)
  all-left test k stages =
      let goes = λ (now : Row). weight_if (test now.number) (k (outcome_from stages (j + 1) (to.Result now))) in
      let on = λ (row : Row). weight_if_some goes (row_in (stage_outcome what j row)) in
      let a = same_weights (λ (row : Row). weight_if (test row.number) (k (outcome_from stages (j + 1) (stage_outcome what j row)))) (λ (row : Row). ended_weight test k row + on row) (λ row. one-left test k stages (j + 1) row.number (stage_outcome what j row) (stage-number what j row)) left in
      let b = added_weights (ended_weight test k) on left in
      let c = next_weighs what j numbers rows goes in
      omega arith

  ended-step : (n : ℕ) (k : Outcome → ℕ) (same : Bool) (o : Outcome) → weight_if same (off_weight (λ o. 1) o) ≡ 0 → weight_if same (off_weight k o) ≡ 0
  ended-step n k same (to.Result row) none = nothing_if same
  ended-step n k same (to.Refused number at cause) none = nothing_unless same (k (to.Refused number at cause)) none
  ended-step n k same (to.Filtered number) none = nothing_unless same (k (to.Filtered number)) none

  -- no record has ended of which the number goes on
  none-ended : (n : ℕ) (k : Outcome → ℕ) → row_count n rows ≤ 1 → 1 ≤ row_count n (next_rows what j numbers rows) → sum_by (ended_weight (λ m. eqb m n) k) left ≡ 0
  none-ended n k apart on =
      let a = all-left (λ m. eqb m n) (λ o. 1) [] in
      let b = left_counts n numbers rows in
      let c : sum_by (ended_weight (λ m. eqb m n) (λ o. 1)) left ≡ 0 = omega arith in
      no_weight (ended_weight (λ m. eqb m n) (λ o. 1)) (ended_weight (λ m. eqb m n) k) (λ row. ended-step n k (eqb row.number n) (stage_outcome what j row)) left c

-- 2. What ended at the stages from stage j on

record HasEnded (stages : List Stage) (j : ℕ) (ps : List Passage) (rows : List Row) : Type 0 where
  -- the numbers that were dropped are of these records
  named : (n : ℕ) → is_dropped (map lost_numbers ps) n ≡ true → 1 ≤ row_count n rows
  over : (k : Outcome → ℕ) → sum_by k (flat_map (λ p. p.over) ps) ≡ sum_by (λ row. weight_if (not (is_dropped (map lost_numbers ps) row.number)) (k (outcome_from stages j (to.Result row)))) rows

either : {P : Type 0} (a b : Bool) → (a || b) ≡ true → (a ≡ true → P) → (b ≡ true → P) → P
either true b is first second = first refl
either false b is first second = second is

lost-named : (what : Stage) (j : ℕ) (last : Bool) (p : Passage) (rows : List Row) → IsJoint what j last p rows → (n : ℕ) → is_among (lost_numbers p) n ≡ true → 1 ≤ row_count n rows
lost-named what j last p rows is n among =
    let a = among_counts p.lost n among in
    let b = is.lost (has_mark n) ∙ mapped_weight (has_mark n) mark_of (dropped_of (lost_numbers p) rows) ∙ dropped_counts n (lost_numbers p) rows in
    let c = weighs_at_most (is_among (lost_numbers p) n) (row_count n rows) in
    omega arith

over-weighs : (what : Stage) (j : ℕ) (last : Bool) (p : Passage) (rows : List Row) → IsJoint what j last p rows → (k : Outcome → ℕ) → sum_by k p.over ≡ sum_by (λ row. ends last k (stage_outcome what j row)) (left_of (lost_numbers p) rows)
over-weighs what j last p rows is k = is.ended k ∙ taken_weighs what j last p rows is (ends last k)

last-step : (k : Outcome → ℕ) (dropped : Bool) (j : ℕ) (o : Outcome) → weight_if (not dropped) (k o) ≡ weight_if (not (dropped || false)) (k (outcome_from [] j o))
last-step k true j o = refl
last-step k false j o = ap k (sym (outcome_none j o))

ended-last : (what : Stage) (j : ℕ) (p : Passage) (rows : List Row) → IsJoint what j true p rows → (k : Outcome → ℕ)
    → sum_by k (p.over ++ []) ≡ sum_by (λ row. weight_if (not (is_dropped (lost_numbers p ∷ []) row.number)) (k (outcome_from (what ∷ []) j (to.Result row)))) rows
unfolding outcome_from
ended-last what j p rows is k =
    let a = sum_by-append k p.over [] in
    let b : sum_by k (p.over ++ []) ≡ sum_by k p.over = omega arith in
    b
    ∙ over-weighs what j true p rows is k
    ∙ filtered_weight (λ (row : Row). k (stage_outcome what j row)) (λ (row : Row). not (has_number (lost_numbers p) row)) rows
    ∙ same_weights (λ (row : Row). weight_if (not (has_number (lost_numbers p) row)) (k (stage_outcome what j row))) (λ (row : Row). weight_if (not (is_dropped (lost_numbers p ∷ []) row.number)) (k (outcome_from [] (j + 1) (stage_outcome what j row)))) (λ row. last-step k (has_number (lost_numbers p) row) (j + 1) (stage_outcome what j row)) rows

end-last : (what : Stage) (j : ℕ) (p : Passage) (rows : List Row) → IsJoint what j true p rows → HasEnded (what ∷ []) j (p ∷ []) rows
end-last what j p rows is = record {
  named = λ n dropped. either (is_among (lost_numbers p) n) false dropped (lost-named what j true p rows is n) (λ no. (let clash : false ≡ true = no in cc));
  over = ended-last what j p rows is;
}

not-either : (a b : Bool) (w : ℕ) → weight_if (not (a || b)) w ≡ weight_if (not a) (weight_if (not b) w)
not-either true b w = refl
not-either false b w = refl

module _ (what next : Stage) (stages : List Stage) (j : ℕ) (p : Passage) (ps : List Passage) (rows : List Row) (is : IsJoint what j false p rows) (behind : HasEnded (next ∷ stages) (j + 1) ps (next_rows what j (lost_numbers p) rows)) where
  abbrev kept : ℕ → Bool
  kept n = not (is_dropped (map lost_numbers ps) n)

  abbrev in_the_end : (Outcome → ℕ) → Row → ℕ
  in_the_end k row = k (outcome_from (next ∷ stages) (j + 1) (stage_outcome what j row))

  -- no record that ended here is dropped behind
  none-dropped : (k : Outcome → ℕ) → sum_by (λ row. weight_if (kept row.number) (off_weight k (stage_outcome what j row))) (left_of (lost_numbers p) rows) ≡ sum_by (λ row. off_weight k (stage_outcome what j row)) (left_of (lost_numbers p) rows)
  none-dropped k = all_pass (λ (row : Row). row.number) kept (λ (row : Row). off_weight k (stage_outcome what j row)) (left_of (lost_numbers p) rows) (λ n no. none-ended what j (lost_numbers p) rows n k (is.apart n) (behind.named n (not-false (is_dropped (map lost_numbers ps) n) no)))

  ended-before : (k : Outcome → ℕ) → sum_by k (p.over ++ flat_map (λ q. q.over) ps) ≡ sum_by (λ row. weight_if (not (is_dropped (lost_numbers p ∷ map lost_numbers ps) row.number)) (in_the_end k row)) rows
  ended-before k =
      let a = sum_by-append k p.over (flat_map (λ q. q.over) ps) in
      let b = over-weighs what j false p rows is k in
      let c = none-dropped k in
      let d = behind.over k in
      let e = all-left what j (lost_numbers p) rows kept k (next ∷ stages) in
      let f = filtered_weight (λ (row : Row). weight_if (kept row.number) (in_the_end k row)) (λ (row : Row). not (has_number (lost_numbers p) row)) rows in
      let g = same_weights (λ (row : Row). weight_if (not (is_dropped (lost_numbers p ∷ map lost_numbers ps) row.number)) (in_the_end k row)) (λ (row : Row). weight_if (not (has_number (lost_numbers p) row)) (weight_if (kept row.number) (in_the_end k row))) (λ row. not-either (has_number (lost_numbers p) row) (is_dropped (map lost_numbers ps) row.number) (in_the_end k row)) rows in
      omega arith

  end-before : HasEnded (what ∷ next ∷ stages) j (p ∷ ps) rows
  unfolding outcome_from
  end-before = record {
    named = λ n dropped. either (is_among (lost_numbers p) n) (is_dropped (map lost_numbers ps) n) dropped (lost-named what j false p rows is n) (λ later. (let a = behind.named n later in let b = next_counts what j n (lost_numbers p) rows in omega arith));
    over = ended-before;
  }

kept-weighs : (stages : List Stage) (drops : List (List ℕ)) (fed : List Row) (k : Outcome → ℕ) → sum_by k (kept_outcomes stages drops fed) ≡ sum_by (λ row. weight_if (is_kept drops row) (k (record_outcome stages row))) fed
kept-weighs stages drops fed k = mapped_weight k (record_outcome stages) (filter (is_kept drops) fed) ∙ filtered_weight (λ (row : Row). k (record_outcome stages row)) (is_kept drops) fed

pub outcomes_kept : OutcomesAreKept
outcomes_kept stages fed passages flow =
    let all = through HasEnded end-last end-before stages 1 _ passages fed (λ h. refl) (numbered_apart 0 fed flow.numbered) flow.passes in
    same_outcomes (flat_map (λ p. p.over) passages) (kept_outcomes stages (drops_in passages) fed) (λ k. all.over k ∙ sym (kept-weighs stages (drops_in passages) fed k))
