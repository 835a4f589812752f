-- Which records reach each joint.
use Rattle.std.proofs.Common.{◌≡◌, ◌≤◌, ◌<◌, ◌+◌, ◌∙◌, ◌||◌, ℕ, zero, suc, List, [], ◌∷◌, Bool, true, false, cond, eqb, not, map, take, Option, Some, None, slice_get, if◌then◌else◌, refl, ap, sym, subst, arith}
use Rattle.std.specs.List.{filter, filter_map, cons_option, list_any}
use Rattle.std.proofs.lemmas.Bool.{eqb-true}
use Rattle.std.proofs.lemmas.List.Sorted.{sum_by-IsPermutation}
use Rattle.std.proofs.lemmas.List.Sums.{sum_by-cons}
use Rattle.ho_base.specs.Marks.{Mark, number_of}
use Rattle.record_lang.specs.Marks.{mark_of}
use Rattle.record_lang.specs.Outcomes.{number_of_outcome, outcome_from, row_in, stage_outcome}
use Rattle.record_lang.specs.Records.{Row, AreNumberedFrom}
use Rattle.record_lang.specs.declared.outcomes.Outcome.{Outcome}
use Rattle.record_lang.specs.declared.outcomes.Outcome.TheVariants as to
use Rattle.record_lang.specs.declared.pipelines.Stage.{Stage}
use Rattle.record_lang.proofs.AccountLemmas.{stage-number}
use Rattle.record_lang.proofs.OutcomeLemmas.{outcome_none, outcome_stays}
use Rattle.joint_reports.specs.Laws.{DroppedAreFed, IsFlow, RecordsReachJoints, TellsJoint}
use Rattle.joint_reports.specs.Reports.{dropped_of, has_number, is_kept}
use Rattle.joint_reports.specs.Through.{Passage, lost_numbers}
use Rattle.joint_reports.proofs.Joints.{dropped_counts, next_counts, next_rows, through}
use Rattle.joint_reports.proofs.Parting.{AreApart, IsJoint, among_counts, has, is_among, row_count}
use Rattle.joint_reports.proofs.Permutations.{same_marks, same_numbers}
use Rattle.joint_reports.proofs.Weights.{count, mapped_weight, one_if, weight_if}

-- 1. Lists from which items are chosen

abbrev then_choose : {A B : Type 0} → (A → Option B) → Option A → Option B
then_choose f None = None
then_choose f (Some a) = f a

all-chosen : {A : Type 0} (f : A → Option A) → ((a : A) → f a ≡ Some a) → (xs : List A) → filter_map f xs ≡ xs
all-chosen f each [] = refl
all-chosen {A} f each (x ∷ xs) = ap (λ z. cons_option z (filter_map f xs)) (each x) ∙ ap (λ (zs : List A). x ∷ zs) (all-chosen f each xs)

same-choice : {A B : Type 0} (f g : A → Option B) → ((a : A) → f a ≡ g a) → (xs : List A) → filter_map f xs ≡ filter_map g xs
same-choice f g each [] = refl
same-choice f g each (x ∷ xs) = ap (λ z. cons_option z (filter_map f xs)) (each x) ∙ ap (cons_option (g x)) (same-choice f g each xs)

module _ {A B C : Type 0} (f : B → Option C) (g : A → Option B) (passes : A → Bool) where
  chosen-on : (y : Option B) (ys : List B) → filter_map f (cons_option y ys) ≡ cons_option (then_choose f y) (filter_map f ys)
  chosen-on None ys = refl
  chosen-on (Some y) ys = refl

  chosen-step : (x : A) (xs : List A) (pass : Bool) → filter_map f (filter_map g (cond pass (x ∷ xs) xs)) ≡ cons_option (if pass then then_choose f (g x) else None) (filter_map f (filter_map g xs))
  chosen-step x xs true = chosen-on (g x) (filter_map g xs)
  chosen-step x xs false = refl

  chosen-twice : (xs : List A) → filter_map f (filter_map g (filter passes xs)) ≡ filter_map (λ a. if passes a then then_choose f (g a) else None) xs
  chosen-twice [] = refl
  chosen-twice (x ∷ xs) = chosen-step x (filter passes xs) (passes x) ∙ ap (cons_option (if passes x then then_choose f (g x) else None)) (chosen-twice xs)

-- 2. The records that reach a joint, counted from stage j on

abbrev pub is_dropped : List (List ℕ) → ℕ → Bool
is_dropped drops n = list_any (λ numbers. is_among numbers n) drops

abbrev comes : List Stage → ℕ → List (List ℕ) → Row → Option Row
comes stages j drops row = if is_kept drops row then row_in (outcome_from stages j (to.Result row)) else None

abbrev pub reached_from : List Stage → ℕ → List (List ℕ) → ℕ → List Row → List Row
reached_from stages j drops i rows = filter_map (comes (take i stages) j (take i drops)) rows

no-choice : (b : Bool) → (if b then None else None) ≡ (let none : Option Row = None in none)
no-choice true = refl
no-choice false = refl

comes-on : (dropped : Bool) (stages : List Stage) (j : ℕ) (drops : List (List ℕ)) (row : Row) (o : Outcome) → number_of_outcome o ≡ row.number
    → (if not (dropped || is_dropped drops row.number) then row_in (outcome_from stages j o) else None) ≡ (if not dropped then then_choose (comes stages j drops) (row_in o) else None)
comes-on true stages j drops row o e = refl
comes-on false stages j drops row (to.Result now) e = ap (λ (n : ℕ). if not (is_dropped drops n) then row_in (outcome_from stages j (to.Result now)) else None) (sym e)
comes-on false stages j drops row (to.Refused number at cause) e =
    ap (λ z. if not (is_dropped drops row.number) then row_in z else None) (outcome_stays stages j (to.Refused number at cause) (λ row e. cc)) ∙ no-choice (not (is_dropped drops row.number))
comes-on false stages j drops row (to.Filtered number) e =
    ap (λ z. if not (is_dropped drops row.number) then row_in z else None) (outcome_stays stages j (to.Filtered number) (λ row e. cc)) ∙ no-choice (not (is_dropped drops row.number))

comes-step : (what : Stage) (stages : List Stage) (j : ℕ) (numbers : List ℕ) (drops : List (List ℕ)) (row : Row)
    → comes (what ∷ stages) j (numbers ∷ drops) row ≡ (if not (has_number numbers row) then then_choose (comes stages (j + 1) drops) (row_in (stage_outcome what j row)) else None)
unfolding outcome_from
comes-step what stages j numbers drops row = comes-on (has_number numbers row) stages (j + 1) drops row (stage_outcome what j row) (stage-number what j row)

reached-first : (stages : List Stage) (j : ℕ) (drops : List (List ℕ)) (rows : List Row) → reached_from stages j drops 0 rows ≡ rows
reached-first stages j drops rows = all-chosen (comes (take 0 stages) j (take 0 drops)) (λ row. ap row_in (outcome_none j (to.Result row))) rows

reached-next : (what : Stage) (stages : List Stage) (j : ℕ) (numbers : List ℕ) (drops : List (List ℕ)) (i : ℕ) (rows : List Row)
    → reached_from (what ∷ stages) j (numbers ∷ drops) (suc i) rows ≡ reached_from stages (j + 1) drops i (next_rows what j numbers rows)
reached-next what stages j numbers drops i rows =
    same-choice (comes (what ∷ take i stages) j (numbers ∷ take i drops)) (λ (row : Row). if not (has_number numbers row) then then_choose (comes (take i stages) (j + 1) (take i drops)) (row_in (stage_outcome what j row)) else None) (comes-step what (take i stages) j numbers (take i drops)) rows
    ∙ sym (chosen-twice (comes (take i stages) (j + 1) (take i drops)) (λ (row : Row). row_in (stage_outcome what j row)) (λ (row : Row). not (has_number numbers row)) rows)

-- 3. They are what the joint is told by, and of each number there are no more than at first

record Reaches (rows arrived : List Row) (p : Passage) : Type 0 where
  tells : TellsJoint arrived p
  fewer : (n : ℕ) → row_count n arrived ≤ row_count n rows

abbrev AllReach : List Stage → ℕ → List Passage → List Row → Type 0
AllReach stages j ps rows = (i : ℕ) (p : Passage) → slice_get ps i ≡ Some p → Reaches rows (reached_from stages j (map lost_numbers ps) i rows) p

told-by : (what : Stage) (j : ℕ) (last : Bool) (p : Passage) (rows : List Row) → IsJoint what j last p rows → TellsJoint rows p
told-by what j last p rows is = record {
  written = same_marks p.written (map mark_of rows) (λ h. is.written h ∙ sym (mapped_weight h mark_of rows));
  lost = same_marks p.lost _ is.lost;
  taken = same_marks p.taken _ is.taken;
}

reaches-first : (what : Stage) (j : ℕ) (last : Bool) (p q : Passage) (rows : List Row) (stages : List Stage) (drops : List (List ℕ)) → IsJoint what j last p rows → Some p ≡ Some q → Reaches rows (reached_from stages j drops 0 rows) q
reaches-first what j last p q rows stages drops is e =
    let same : p ≡ q = cc in
    let here : Reaches rows rows p = record { tells = told-by what j last p rows is; fewer = λ n. omega arith } in
    subst (Reaches rows (reached_from stages j drops 0 rows)) same (subst (λ z. Reaches rows z p) (sym (reached-first stages j drops rows)) here)

reach-last : (what : Stage) (j : ℕ) (p : Passage) (rows : List Row) → IsJoint what j true p rows → AllReach (what ∷ []) j (p ∷ []) rows
reach-last what j p rows is zero q e = reaches-first what j true p q rows (what ∷ []) (lost_numbers p ∷ []) is e
reach-last what j p rows is (suc i) q e = let no : None ≡ Some q = e in cc

reach-before : (what next : Stage) (stages : List Stage) (j : ℕ) (p : Passage) (ps : List Passage) (rows : List Row) → IsJoint what j false p rows → AllReach (next ∷ stages) (j + 1) ps (next_rows what j (lost_numbers p) rows) → AllReach (what ∷ next ∷ stages) j (p ∷ ps) rows
reach-before what next stages j p ps rows is behind zero q e = reaches-first what j false p q rows (what ∷ next ∷ stages) (lost_numbers p ∷ map lost_numbers ps) is e
reach-before what next stages j p ps rows is behind (suc i) q e =
    let later = behind i q e in
    let here : Reaches rows (reached_from (next ∷ stages) (j + 1) (map lost_numbers ps) i (next_rows what j (lost_numbers p) rows)) q = record { tells = later.tells; fewer = λ n. omega (arith, later.fewer n, next_counts what j n (lost_numbers p) rows) } in
    subst (λ z. Reaches rows z q) (sym (reached-next what (next ∷ stages) j (lost_numbers p) (map lost_numbers ps) i rows)) here

-- 4. Numbered records are apart

has-other : (n k : ℕ) (same : Bool) → eqb k n ≡ same → n < k → one_if same ≡ 0
has-other n k true e less = let is = eqb-true k n e in absurd (omega arith)
has-other n k false e less = refl

none-before : (n k : ℕ) (rows : List Row) → AreNumberedFrom k rows → n < k → row_count n rows ≡ 0
none-before n k [] numbered less = refl
none-before n k (row ∷ rows) numbered less =
    let a = sum_by-cons (λ (r : Row). has n r.number) row rows in
    let b = has-other n row.number (eqb row.number n) refl (omega (arith, numbered.0)) in
    let c = none-before n (k + 1) rows numbered.1 (omega arith) in
    omega arith

one-step : (n k c : ℕ) (same : Bool) → eqb k n ≡ same → (k ≡ n → c ≡ 0) → c ≤ 1 → one_if same + c ≤ 1
one-step n k c true e none few = let a = none (eqb-true k n e) in omega arith
one-step n k c false e none few = omega arith

pub numbered_apart : (k : ℕ) (rows : List Row) → AreNumberedFrom k rows → AreApart rows
numbered_apart k [] numbered n = omega arith
numbered_apart k (row ∷ rows) numbered n =
    let a = sum_by-cons (λ (r : Row). has n r.number) row rows in
    let b = one-step n row.number (row_count n rows) (eqb row.number n) refl (λ e. none-before n (k + 1) rows numbered.1 (omega (arith, numbered.0))) (numbered_apart (k + 1) rows numbered.1 n) in
    omega arith

all-reach : (stages : List Stage) (fed : List Row) (passages : List Passage) → IsFlow stages fed passages → AllReach stages 1 passages fed
all-reach stages fed passages flow = through AllReach reach-last reach-before stages 1 _ passages fed (λ h. refl) (numbered_apart 0 fed flow.numbered) flow.passes

pub records_reach : RecordsReachJoints
records_reach stages fed passages flow j p there = (all-reach stages fed passages flow j p there).tells

-- 5. The numbers that were dropped

abbrev pub has_mark : ℕ → Mark → ℕ
has_mark n m = has n (number_of m)

lost-counts : (n : ℕ) (arrived : List Row) (p : Passage) → TellsJoint arrived p → count number_of n p.lost ≡ weight_if (is_among (lost_numbers p) n) (row_count n arrived)
lost-counts n arrived p tells =
    sym (sum_by-IsPermutation (has_mark n) p.lost (map mark_of (dropped_of (lost_numbers p) arrived)) tells.lost)
    ∙ mapped_weight (has_mark n) mark_of (dropped_of (lost_numbers p) arrived)
    ∙ dropped_counts n (lost_numbers p) arrived

once : (among : Bool) (arrived fed lost : ℕ) → lost ≡ weight_if among arrived → (among ≡ true → 1 ≤ lost) → arrived ≤ fed → fed ≤ 1 → lost ≡ weight_if among fed
once true arrived fed lost is some fewer one = let a = some refl in omega arith
once false arrived fed lost is some fewer one = is

named-counts : (n : ℕ) (numbers : List ℕ) (rows : List Row) → count (λ k. k) n (map (λ row. row.number) (dropped_of numbers rows)) ≡ weight_if (is_among numbers n) (row_count n rows)
named-counts n numbers rows = mapped_weight (has n) (λ (row : Row). row.number) (dropped_of numbers rows) ∙ dropped_counts n numbers rows

same-counts : (n : ℕ) (fed arrived : List Row) (p : Passage) → AreApart fed → Reaches fed arrived p → count (λ k. k) n (lost_numbers p) ≡ count (λ k. k) n (map (λ row. row.number) (dropped_of (lost_numbers p) fed))
same-counts n fed arrived p apart at =
    mapped_weight (has n) number_of p.lost
    ∙ once (is_among (lost_numbers p) n) (row_count n arrived) (row_count n fed) (count number_of n p.lost) (lost-counts n arrived p at.tells) (among_counts p.lost n) (at.fewer n) (apart n)
    ∙ sym (named-counts n (lost_numbers p) fed)

pub dropped_fed : DroppedAreFed
dropped_fed stages fed passages flow j p there =
    same_numbers (lost_numbers p) (map (λ row. row.number) (dropped_of (lost_numbers p) fed)) (λ n. same-counts n fed _ p (numbered_apart 0 fed flow.numbered) (all-reach stages fed passages flow j p there))
