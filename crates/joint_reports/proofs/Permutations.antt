-- Lists in which each element stands as often are permutations of each other.
use Rattle.std.proofs.Common.{◌≡◌, ◌≤◌, ◌+◌, ◌++◌, ◌∙◌, ℕ, zero, suc, List, [], ◌∷◌, Bool, true, false, eqb, Option, Some, None, option_map, refl, ap, sym, subst, arith}
use Rattle.std.specs.List.{sum_by}
use Rattle.std.specs.List.Sorted.{IsPermutation}
use Rattle.std.specs.Bool.{Decides}
use Rattle.std.specs.Str.{bytes_eq}
use Rattle.std.proofs.lemmas.Bool.Decides.{Decides-eqb, Decides-like}
use Rattle.std.proofs.lemmas.List.Sorted.{IsPermutation-refl, IsPermutation-trans, IsPermutation-sym, IsPermutation-cons, IsPermutation-middle}
use Rattle.std.proofs.lemmas.List.Sums.{sum_by-append, sum_by-cons}
use Rattle.std.proofs.lemmas.Slice.Eq.{bytes_eq-Decides}
use Rattle.ho_base.specs.Marks.{Mark}
use Rattle.record_lang.specs.Marks.{mark_of, row_of_mark}
use Rattle.record_lang.specs.Records.{Row}
use Rattle.record_lang.specs.declared.outcomes.Outcome.{Outcome}
use Rattle.record_lang.specs.declared.outcomes.Outcome.TheVariants as to
use Rattle.record_lang.proofs.MarkLemmas.{marks_tell}
use Rattle.joint_reports.proofs.Weights.{count, one_if}

-- an element that stands in a list, with what stands before and after it
record StandsIn {A : Type 0} (a : A) (xs : List A) : Type 0 where
  before : List A
  after : List A
  is : xs ≡ before ++ a ∷ after

-- 1. Elements that a test tells apart

module _ {A : Type 0} (same : A → A → Bool) (decides : (a b : A) → Decides (same a b) (a ≡ b)) where
  -- whether it is this element
  abbrev is_it : A → A → ℕ
  is_it a b = one_if (same a b)

  itself : (a : A) → is_it a a ≡ 1
  itself a = simp ((decides a a).1 refl) refl

  found-step : (a x : A) (xs : List A) (is : Bool) → same a x ≡ is → 1 ≤ one_if is + sum_by (is_it a) xs → (1 ≤ sum_by (is_it a) xs → StandsIn a xs) → StandsIn a (x ∷ xs)
  found-step a x xs true e some later = record { before = []; after = xs; is = ap (λ (z : A). z ∷ xs) (sym ((decides a x).0 e)) }
  found-step a x xs false e some later = let at = later (omega arith) in record { before = x ∷ at.before; after = at.after; is = ap (λ (zs : List A). x ∷ zs) at.is }

  found : (a : A) (xs : List A) → 1 ≤ sum_by (is_it a) xs → StandsIn a xs
  found a [] some = absurd (omega arith)
  found a (x ∷ xs) some = found-step a x xs (same a x) refl (let e = sum_by-cons (is_it a) x xs in omega arith) (found a xs)

  taken-out : (h : A → ℕ) (x : A) (before after : List A) → sum_by h (before ++ x ∷ after) ≡ h x + sum_by h (before ++ after)
  taken-out h x before after =
      let a = sum_by-append h before (x ∷ after) in
      let b = sum_by-append h before after in
      let c = sum_by-cons h x after in
      omega arith

  rest-often : (a x : A) (xs ys before after : List A) → ys ≡ before ++ x ∷ after → sum_by (is_it a) (x ∷ xs) ≡ sum_by (is_it a) ys → sum_by (is_it a) xs ≡ sum_by (is_it a) (before ++ after)
  rest-often a x xs ys before after is often =
      let b = sum_by-cons (is_it a) x xs in
      let c = ap (sum_by (is_it a)) is in
      let d = taken-out (is_it a) x before after in
      omega arith

  put-back : (x : A) (xs before after : List A) → IsPermutation xs (before ++ after) → IsPermutation (x ∷ xs) (before ++ x ∷ after)
  put-back x xs before after is =
      IsPermutation-trans (x ∷ xs) (x ∷ (before ++ after)) (before ++ x ∷ after) (IsPermutation-cons x xs (before ++ after) is) (IsPermutation-sym (before ++ x ∷ after) (x ∷ (before ++ after)) (IsPermutation-middle before x after))

  as_often : (xs ys : List A) → ((a : A) → sum_by (is_it a) xs ≡ sum_by (is_it a) ys) → IsPermutation xs ys
  as_often [] [] often = IsPermutation-refl []
  as_often [] (y ∷ ys) often = let e = often y in let c = sum_by-cons (is_it y) y ys in let i = itself y in absurd (omega arith)
  as_often (x ∷ xs) ys often =
      let at = found x ys (let e = often x in let c = sum_by-cons (is_it x) x xs in let i = itself x in omega arith) in
      let rest = as_often xs (at.before ++ at.after) (λ a. rest-often a x xs ys at.before at.after at.is (often a)) in
      subst (IsPermutation (x ∷ xs)) (sym at.is) (put-back x xs at.before at.after rest)

-- 2. Marks, numbers and outcomes

pub same_marks : (xs ys : List Mark) → ((h : Mark → ℕ) → sum_by h xs ≡ sum_by h ys) → IsPermutation xs ys
same_marks xs ys same = as_often bytes_eq bytes_eq-Decides xs ys (λ a. same (λ b. one_if (bytes_eq a b)))

pub same_numbers : (xs ys : List ℕ) → ((n : ℕ) → count (λ k. k) n xs ≡ count (λ k. k) n ys) → IsPermutation xs ys
same_numbers xs ys same = as_often (λ n k. eqb k n) (λ n k. Decides-like (eqb k n) sym sym (Decides-eqb k n)) xs ys same

-- a result has its record's mark behind 0, and the others begin with a number above 0
abbrev outcome_mark : Outcome → Mark
outcome_mark (to.Result row) = 0 ∷ mark_of row
outcome_mark (to.Refused number stage cause) = suc number ∷ stage ∷ cause ∷ []
outcome_mark (to.Filtered number) = suc number ∷ []

abbrev outcome_of_mark : Mark → Option Outcome
outcome_of_mark (zero ∷ mark) = option_map (λ row. to.Result row) (row_of_mark mark)
outcome_of_mark (suc number ∷ []) = Some (to.Filtered number)
outcome_of_mark (suc number ∷ stage ∷ cause ∷ []) = Some (to.Refused number stage cause)
outcome_of_mark _ = None

read-back : (o : Outcome) → outcome_of_mark (outcome_mark o) ≡ Some o
read-back (to.Result row) = ap (option_map (λ (r : Row). to.Result r)) (marks_tell row)
read-back (to.Refused number stage cause) = refl
read-back (to.Filtered number) = refl

outcomes-apart : (a b : Outcome) → outcome_mark a ≡ outcome_mark b → a ≡ b
outcomes-apart a b e = let both : Some a ≡ Some b = sym (read-back a) ∙ ap outcome_of_mark e ∙ read-back b in cc

outcome-Decides : (a b : Outcome) → Decides (bytes_eq (outcome_mark a) (outcome_mark b)) (a ≡ b)
outcome-Decides a b = Decides-like (bytes_eq (outcome_mark a) (outcome_mark b)) (outcomes-apart a b) (λ e. ap outcome_mark e) (bytes_eq-Decides (outcome_mark a) (outcome_mark b))

pub same_outcomes : (xs ys : List Outcome) → ((h : Outcome → ℕ) → sum_by h xs ≡ sum_by h ys) → IsPermutation xs ys
same_outcomes xs ys same = as_often (λ a b. bytes_eq (outcome_mark a) (outcome_mark b)) outcome-Decides xs ys (λ a. same (λ b. one_if (bytes_eq (outcome_mark a) (outcome_mark b))))
