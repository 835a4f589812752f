-- What was written to a joint is parted by number into what was dropped and what was taken.
use Rattle.std.proofs.Common.{◌≡◌, ◌≤◌, ◌+◌, ◌∙◌, ◌==◌, ◌||◌, ℕ, List, [], ◌∷◌, Bool, true, false, eqb, not, map, refl, ap, sym, arith}
use Rattle.std.specs.List.{sum_by, filter, list_any}
use Rattle.std.proofs.lemmas.Bool.{eqb-true, not-false, not-true}
use Rattle.std.proofs.lemmas.List.Sums.{sum_by-cons}
use Rattle.ho_base.specs.Marks.{Mark, number_of}
use Rattle.record_lang.specs.Marks.{mark_of}
use Rattle.record_lang.specs.Records.{Row}
use Rattle.record_lang.specs.declared.outcomes.Outcome.{Outcome}
use Rattle.record_lang.specs.declared.pipelines.Stage.{Stage}
use Rattle.joint_reports.specs.Reports.{dropped_of, left_of}
use Rattle.joint_reports.specs.Through.{Passage, PassesJoint, ends, lost_numbers, says, weight_of_rows}
use Rattle.joint_reports.proofs.Weights.{all_pass, count, filtered_weight, mapped_weight, none_pass, none_weighs, nothing_if, of_number, one_if, passing, same_weights, weighs_if, weight_if}

-- how many records have this number
abbrev pub row_count : ℕ → List Row → ℕ
row_count n rows = count (λ row. row.number) n rows

-- 1 if the number is n
abbrev pub has : ℕ → ℕ → ℕ
has n k = one_if (eqb k n)

-- no two records have one number
abbrev pub AreApart : List Row → Type 0
AreApart rows = (n : ℕ) → row_count n rows ≤ 1

-- 1. The numbers that were dropped

abbrev pub is_among : List ℕ → ℕ → Bool
is_among numbers n = list_any (λ k. k == n) numbers

among-step : (same later : Bool) (c : ℕ) → (same || later) ≡ true → (later ≡ true → 1 ≤ c) → 1 ≤ one_if same + c
among-step true later c is some = omega arith
among-step false later c is some = let a = some is in omega arith

missing-step : (same later : Bool) (c : ℕ) → (same || later) ≡ false → (later ≡ false → c ≡ 0) → one_if same + c ≡ 0
missing-step true later c is none = let no : true ≡ false = is in cc
missing-step false later c is none = let a = none is in omega arith

pub among_counts : (lost : List Mark) (n : ℕ) → is_among (map number_of lost) n ≡ true → 1 ≤ count number_of n lost
among_counts [] n is = let no : false ≡ true = is in cc
among_counts (m ∷ lost) n is =
    let a = sum_by-cons (of_number number_of n (λ m. 1)) m lost in
    let b = among-step (number_of m == n) (is_among (map number_of lost) n) (count number_of n lost) is (among_counts lost n) in
    omega arith

pub missing_counts : (lost : List Mark) (n : ℕ) → is_among (map number_of lost) n ≡ false → count number_of n lost ≡ 0
missing_counts [] n is = refl
missing_counts (m ∷ lost) n is = sum_by-cons (of_number number_of n (λ m. 1)) m lost ∙ missing-step (number_of m == n) (is_among (map number_of lost) n) (count number_of n lost) is (missing_counts lost n)

-- a test on numbers leaves all or none of one number
named-step : (n k : ℕ) (test : ℕ → Bool) (same : Bool) → eqb k n ≡ same → weight_if (test k) (one_if same) ≡ weight_if (test n) (one_if same)
named-step n k test true e = ap (λ (z : ℕ). one_if (test z)) (eqb-true k n e)
named-step n k test false e = nothing_if (test k) ∙ sym (nothing_if (test n))

pub part_counts : (n : ℕ) (test : ℕ → Bool) (rows : List Row) → row_count n (filter (λ row. test row.number) rows) ≡ weight_if (test n) (row_count n rows)
part_counts n test rows =
    filtered_weight (λ (row : Row). has n row.number) (λ (row : Row). test row.number) rows
    ∙ same_weights (λ (row : Row). weight_if (test row.number) (has n row.number)) (λ (row : Row). weight_if (test n) (has n row.number)) (λ row. named-step n row.number test (eqb row.number n) refl) rows
    ∙ weighs_if (test n) (λ (row : Row). has n row.number) rows

-- 2. Two parts of what was written, of which one has the numbers that pass a test

part-weight : (written xs ys : List Mark) (rows : List Row) (test : ℕ → Bool)
    → ((h : Mark → ℕ) → sum_by h written ≡ weight_of_rows rows h)
    → ((h : Mark → ℕ) → sum_by h written ≡ sum_by h xs + sum_by h ys)
    → ((n : ℕ) → test n ≡ false → count number_of n xs ≡ 0)
    → ((n : ℕ) → test n ≡ true → count number_of n ys ≡ 0)
    → (h : Mark → ℕ) → sum_by h xs ≡ sum_by h (map mark_of (filter (λ row. test row.number) rows))
part-weight written xs ys rows test are adds inside outside h =
    let a = all_pass number_of test h xs (λ n fails. none_weighs number_of n h xs (inside n fails)) in
    let b = none_pass number_of test h ys (λ n passes. none_weighs number_of n h ys (outside n passes)) in
    let c = adds (passing number_of test h) in
    let d : sum_by h xs ≡ sum_by (passing number_of test h) written = omega arith in
    d
    ∙ are (passing number_of test h)
    ∙ sym (filtered_weight (λ (row : Row). h (mark_of row)) (λ (row : Row). test row.number) rows)
    ∙ sym (mapped_weight h mark_of (filter (λ row. test row.number) rows))

-- 3. A joint and its stage, told by the records that come to it

pub record IsJoint (what : Stage) (j : ℕ) (last : Bool) (p : Passage) (rows : List Row) : Type 0 where
  pub apart : AreApart rows
  pub written : (h : Mark → ℕ) → sum_by h p.written ≡ weight_of_rows rows h
  pub lost : (h : Mark → ℕ) → sum_by h p.lost ≡ sum_by h (map mark_of (dropped_of (lost_numbers p) rows))
  pub taken : (h : Mark → ℕ) → sum_by h p.taken ≡ sum_by h (map mark_of (left_of (lost_numbers p) rows))
  pub ended : (k : Outcome → ℕ) → sum_by k p.over ≡ sum_by (λ m. ends last k (says what j m)) p.taken

module _ (what : Stage) (j : ℕ) (last : Bool) (arriving : (Mark → ℕ) → ℕ) (p : Passage) (rows : List Row) (are : (h : Mark → ℕ) → arriving h ≡ weight_of_rows rows h) (apart : AreApart rows) (passes : PassesJoint what j last arriving p) where
  written-are : (h : Mark → ℕ) → sum_by h p.written ≡ weight_of_rows rows h
  written-are h = passes.arrives h ∙ are h

  -- a number is not among both
  one-part : (n : ℕ) → count number_of n p.taken + count number_of n p.lost ≤ 1
  one-part n =
      let a : count number_of n p.written ≡ row_count n rows = written-are (of_number number_of n (λ m. 1)) in
      let b = passes.adds_up (of_number number_of n (λ m. 1)) in
      omega (arith, apart n)

  not-taken : (n : ℕ) → is_among (lost_numbers p) n ≡ true → count number_of n p.taken ≡ 0
  not-taken n is = let a = among_counts p.lost n is in let b = one-part n in omega arith

  pub joint : IsJoint what j last p rows
  joint = record {
    apart = apart;
    written = written-are;
    lost = part-weight p.written p.lost p.taken rows (is_among (lost_numbers p)) written-are (λ h. (let a = passes.adds_up h in omega arith)) (missing_counts p.lost) not-taken;
    taken = part-weight p.written p.taken p.lost rows (λ n. not (is_among (lost_numbers p) n)) written-are passes.adds_up (λ n is. not-taken n (not-false (is_among (lost_numbers p) n) is)) (λ n is. missing_counts p.lost n (not-true (is_among (lost_numbers p) n) is));
    ended = passes.ends_here;
  }
