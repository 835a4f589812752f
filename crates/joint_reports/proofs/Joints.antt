-- The joints of a pipeline one by one, each with the records that come to it.
use Rattle.std.proofs.Common.{◌≡◌, ◌≤◌, ◌+◌, ◌∙◌, ℕ, List, [], ◌∷◌, Bool, true, false, not, refl, ap, sym, arith}
use Rattle.std.specs.List.{sum_by, filter_map}
use Rattle.ho_base.specs.Marks.{Mark}
use Rattle.record_lang.specs.Marks.{mark_of}
use Rattle.record_lang.specs.Records.{Row}
use Rattle.record_lang.specs.Outcomes.{number_of_outcome, row_in, stage_outcome}
use Rattle.record_lang.specs.declared.outcomes.Outcome.{Outcome}
use Rattle.record_lang.specs.declared.outcomes.Outcome.TheVariants as to
use Rattle.record_lang.specs.declared.pipelines.Stage.{Stage}
use Rattle.record_lang.proofs.AccountLemmas.{stage-number}
use Rattle.record_lang.proofs.MarkLemmas.{marks_tell}
use Rattle.joint_reports.specs.Reports.{dropped_of, left_of}
use Rattle.joint_reports.specs.Through.{Passage, PassesJoints, goes, going_on, lost_numbers, made_of_row, on_weight, says, weight_of_rows}
use Rattle.joint_reports.proofs.Weights.{chosen_weight, less_weight, mapped_weight, same_weights, weighs_at_most, weight_if, weight_if_some}
use Rattle.joint_reports.proofs.Parting.{AreApart, IsJoint, has, is_among, joint, part_counts, row_count}

-- the records that go on from stage j
abbrev pub next_rows : Stage → ℕ → List ℕ → List Row → List Row
next_rows what j numbers rows = filter_map (λ row. row_in (stage_outcome what j row)) (left_of numbers rows)

-- 1. What was taken is what its records are

pub taken_weighs : (what : Stage) (j : ℕ) (last : Bool) (p : Passage) (rows : List Row) → IsJoint what j last p rows → (g : Outcome → ℕ)
    → sum_by (λ m. g (says what j m)) p.taken ≡ sum_by (λ row. g (stage_outcome what j row)) (left_of (lost_numbers p) rows)
taken_weighs what j last p rows is g =
    is.taken (λ m. g (says what j m))
    ∙ mapped_weight (λ (m : Mark). g (says what j m)) mark_of (left_of (lost_numbers p) rows)
    ∙ same_weights (λ (row : Row). g (says what j (mark_of row))) (λ (row : Row). g (stage_outcome what j row)) (λ row. ap (λ z. g (made_of_row what j z)) (marks_tell row)) (left_of (lost_numbers p) rows)

on-row : (h : Mark → ℕ) (o : Outcome) → on_weight h o ≡ weight_if_some (λ (row : Row). h (mark_of row)) (row_in o)
on-row h (to.Result row) = refl
on-row h (to.Refused number stage cause) = refl
on-row h (to.Filtered number) = refl

pub next_weighs : (what : Stage) (j : ℕ) (numbers : List ℕ) (rows : List Row) (h : Row → ℕ) → sum_by h (next_rows what j numbers rows) ≡ sum_by (λ row. weight_if_some h (row_in (stage_outcome what j row))) (left_of numbers rows)
next_weighs what j numbers rows h = chosen_weight h (λ (row : Row). row_in (stage_outcome what j row)) (left_of numbers rows)

going-is : (what : Stage) (j : ℕ) (last : Bool) (p : Passage) (rows : List Row) → IsJoint what j last p rows → (h : Mark → ℕ) → going_on what j p h ≡ weight_of_rows (next_rows what j (lost_numbers p) rows) h
going-is what j last p rows is h =
    taken_weighs what j last p rows is (goes false h)
    ∙ same_weights (λ (row : Row). goes false h (stage_outcome what j row)) (λ (row : Row). weight_if_some (λ (r : Row). h (mark_of r)) (row_in (stage_outcome what j row))) (λ row. on-row h (stage_outcome what j row)) (left_of (lost_numbers p) rows)
    ∙ sym (next_weighs what j (lost_numbers p) rows (λ row. h (mark_of row)))

-- 2. A record keeps its number, so there are no more of a number behind a stage

number-kept : (n k : ℕ) (o : Outcome) → number_of_outcome o ≡ k → weight_if_some (λ (row : Row). has n row.number) (row_in o) ≤ has n k
number-kept n k (to.Result row) e = let a = ap (has n) e in omega arith
number-kept n k (to.Refused number stage cause) e = omega arith
number-kept n k (to.Filtered number) e = omega arith

pub left_counts : (n : ℕ) (numbers : List ℕ) (rows : List Row) → row_count n (left_of numbers rows) ≤ row_count n rows
left_counts n numbers rows =
    let a = part_counts n (λ k. not (is_among numbers k)) rows in
    let b = weighs_at_most (not (is_among numbers n)) (row_count n rows) in
    omega arith

pub dropped_counts : (n : ℕ) (numbers : List ℕ) (rows : List Row) → row_count n (dropped_of numbers rows) ≡ weight_if (is_among numbers n) (row_count n rows)
dropped_counts n numbers rows = part_counts n (is_among numbers) rows

pub next_counts : (what : Stage) (j n : ℕ) (numbers : List ℕ) (rows : List Row) → row_count n (next_rows what j numbers rows) ≤ row_count n rows
next_counts what j n numbers rows =
    let a = next_weighs what j numbers rows (λ row. has n row.number) in
    let b = less_weight (λ (row : Row). weight_if_some (λ (r : Row). has n r.number) (row_in (stage_outcome what j row))) (λ (row : Row). has n row.number) (λ row. number-kept n row.number (stage_outcome what j row) (stage-number what j row)) (left_of numbers rows) in
    omega (arith, left_counts n numbers rows)

next-apart : (what : Stage) (j : ℕ) (numbers : List ℕ) (rows : List Row) → AreApart rows → AreApart (next_rows what j numbers rows)
next-apart what j numbers rows apart n = omega (arith, next_counts what j n numbers rows, apart n)

-- 3. What holds at the last joint, and at each joint if it holds of the joints behind it, holds at all joints

module _ (P : List Stage → ℕ → List Passage → List Row → Type 0)
    (at_last : (what : Stage) (j : ℕ) (p : Passage) (rows : List Row) → IsJoint what j true p rows → P (what ∷ []) j (p ∷ []) rows)
    (before : (what next : Stage) (stages : List Stage) (j : ℕ) (p : Passage) (ps : List Passage) (rows : List Row) → IsJoint what j false p rows → P (next ∷ stages) (j + 1) ps (next_rows what j (lost_numbers p) rows) → P (what ∷ next ∷ stages) j (p ∷ ps) rows) where
  pub through : (stages : List Stage) (j : ℕ) (arriving : (Mark → ℕ) → ℕ) (ps : List Passage) (rows : List Row) → ((h : Mark → ℕ) → arriving h ≡ weight_of_rows rows h) → AreApart rows → PassesJoints stages j arriving ps → P stages j ps rows
  through [] j arriving ps rows are apart passes = absurd passes
  through (what ∷ []) j arriving [] rows are apart passes = absurd passes
  through (what ∷ []) j arriving (p ∷ []) rows are apart passes = at_last what j p rows (joint what j true arriving p rows are apart passes)
  through (what ∷ []) j arriving (p ∷ q ∷ ps) rows are apart passes = absurd passes
  through (what ∷ next ∷ stages) j arriving [] rows are apart passes = absurd passes
  through (what ∷ next ∷ stages) j arriving (p ∷ ps) rows are apart passes =
      let here = joint what j false arriving p rows are apart passes.0 in
      before what next stages j p ps rows here (through (next ∷ stages) (j + 1) (going_on what j p) ps (next_rows what j (lost_numbers p) rows) (going-is what j false p rows here) (next-apart what j (lost_numbers p) rows apart) passes.1)
