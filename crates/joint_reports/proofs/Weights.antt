-- What lists weigh: all of it, what passes a test, and what has one number.
use Rattle.std.proofs.Common.{◌≡◌, ◌≤◌, ◌+◌, ℕ, List, [], ◌∷◌, Bool, true, false, cond, eqb, map, Option, Some, None, refl, sym, arith}
use Rattle.std.specs.List.{sum_by, filter, filter_map, cons_option}
use Rattle.std.proofs.lemmas.Bool.Decides.{Decides-eqb}
use Rattle.std.proofs.lemmas.List.Sums.{sum_by-cons}

-- 1. Two weights

module _ {A : Type 0} (f g : A → ℕ) where
  pub same_weights : ((a : A) → f a ≡ g a) → (xs : List A) → sum_by f xs ≡ sum_by g xs
  same_weights same [] = refl
  same_weights same (x ∷ xs) = let a = sum_by-cons f x xs in let b = sum_by-cons g x xs in omega (arith, same x, same_weights same xs)

  pub less_weight : ((a : A) → f a ≤ g a) → (xs : List A) → sum_by f xs ≤ sum_by g xs
  less_weight less [] = omega arith
  less_weight less (x ∷ xs) = let a = sum_by-cons f x xs in let b = sum_by-cons g x xs in omega (arith, less x, less_weight less xs)

  pub added_weights : (xs : List A) → sum_by (λ a. f a + g a) xs ≡ sum_by f xs + sum_by g xs
  added_weights [] = refl
  added_weights (x ∷ xs) =
      let a = sum_by-cons f x xs in
      let b = sum_by-cons g x xs in
      let c = sum_by-cons (λ a. f a + g a) x xs in
      omega (arith, added_weights xs)

  -- where one weighs nothing the other weighs nothing
  pub no_weight : ((a : A) → f a ≡ 0 → g a ≡ 0) → (xs : List A) → sum_by f xs ≡ 0 → sum_by g xs ≡ 0
  no_weight zero [] none = refl
  no_weight zero (x ∷ xs) none =
      let a = sum_by-cons f x xs in
      let b = sum_by-cons g x xs in
      let here : g x ≡ 0 = zero x (omega arith) in
      let later : sum_by g xs ≡ 0 = no_weight zero xs (omega arith) in
      omega arith

-- 2. A weight that counts where a test holds

abbrev pub weight_if : Bool → ℕ → ℕ
weight_if b w = cond b w 0

abbrev pub one_if : Bool → ℕ
one_if b = weight_if b 1

pub nothing_if : (b : Bool) → weight_if b 0 ≡ 0
nothing_if true = refl
nothing_if false = refl

pub weighs_at_most : (b : Bool) (w : ℕ) → weight_if b w ≤ w
weighs_at_most true w = omega arith
weighs_at_most false w = omega arith

pub nothing_unless : (b : Bool) (w : ℕ) → one_if b ≡ 0 → weight_if b w ≡ 0
nothing_unless true w none = absurd (omega arith)
nothing_unless false w none = refl

abbrev nothing : {A : Type 0} → A → ℕ
nothing a = 0

nothing-weighs : {A : Type 0} (xs : List A) → sum_by nothing xs ≡ 0
nothing-weighs [] = refl
nothing-weighs (x ∷ xs) = let a = sum_by-cons nothing x xs in let b = nothing-weighs xs in omega arith

pub weighs_if : {A : Type 0} (b : Bool) (h : A → ℕ) (xs : List A) → sum_by (λ a. weight_if b (h a)) xs ≡ weight_if b (sum_by h xs)
weighs_if true h xs = refl
weighs_if false h xs = nothing-weighs xs

-- 3. What a list was made from

pub mapped_weight : {A B : Type 0} (h : B → ℕ) (f : A → B) (xs : List A) → sum_by h (map f xs) ≡ sum_by (λ a. h (f a)) xs
mapped_weight h f [] = refl
mapped_weight h f (x ∷ xs) =
    let a = sum_by-cons h (f x) (map f xs) in
    let b = sum_by-cons (λ a. h (f a)) x xs in
    omega (arith, mapped_weight h f xs)

one-filtered : {A : Type 0} (h : A → ℕ) (x : A) (xs : List A) (passes : Bool) → sum_by h (cond passes (x ∷ xs) xs) ≡ weight_if passes (h x) + sum_by h xs
one-filtered h x xs true = sum_by-cons h x xs
one-filtered h x xs false = omega arith

pub filtered_weight : {A : Type 0} (h : A → ℕ) (passes : A → Bool) (xs : List A) → sum_by h (filter passes xs) ≡ sum_by (λ a. weight_if (passes a) (h a)) xs
filtered_weight h passes [] = refl
filtered_weight h passes (x ∷ xs) =
    let a = one-filtered h x (filter passes xs) (passes x) in
    let b = sum_by-cons (λ a. weight_if (passes a) (h a)) x xs in
    omega (arith, filtered_weight h passes xs)

abbrev pub weight_if_some : {B : Type 0} → (B → ℕ) → Option B → ℕ
weight_if_some h None = 0
weight_if_some h (Some b) = h b

one-chosen : {B : Type 0} (h : B → ℕ) (y : Option B) (ys : List B) → sum_by h (cons_option y ys) ≡ weight_if_some h y + sum_by h ys
one-chosen h None ys = omega arith
one-chosen h (Some y) ys = sum_by-cons h y ys

pub chosen_weight : {A B : Type 0} (h : B → ℕ) (f : A → Option B) (xs : List A) → sum_by h (filter_map f xs) ≡ sum_by (λ a. weight_if_some h (f a)) xs
chosen_weight h f [] = refl
chosen_weight h f (x ∷ xs) =
    let a = one-chosen h (f x) (filter_map f xs) in
    let b = sum_by-cons (λ a. weight_if_some h (f a)) x xs in
    omega (arith, chosen_weight h f xs)

-- 4. The elements of one number, and those whose number passes a test

eqb-same : (n : ℕ) → eqb n n ≡ true
eqb-same n = (Decides-eqb n n).1 refl

module _ {A : Type 0} (number : A → ℕ) where
  abbrev pub of_number : ℕ → (A → ℕ) → A → ℕ
  of_number n h a = weight_if (eqb (number a) n) (h a)

  -- how many have this number
  abbrev pub count : ℕ → List A → ℕ
  count n xs = sum_by (of_number n (λ a. 1)) xs

  abbrev pub passing : (ℕ → Bool) → (A → ℕ) → A → ℕ
  passing test h a = weight_if (test (number a)) (h a)

  -- no element has the number, so none has weight there
  pub none_weighs : (n : ℕ) (h : A → ℕ) (xs : List A) → count n xs ≡ 0 → sum_by (of_number n h) xs ≡ 0
  none_weighs n h xs = no_weight (of_number n (λ a. 1)) (of_number n h) (λ a. nothing_unless (eqb (number a) n) (h a)) xs

  own-weight : (h : A → ℕ) (x : A) (xs : List A) → sum_by (of_number (number x) h) (x ∷ xs) ≡ 0 → h x ≡ 0
  own-weight h x xs none =
      let own : of_number (number x) h x ≡ h x = simp (eqb-same (number x)) refl in
      let a = sum_by-cons (of_number (number x) h) x xs in
      omega arith

  later-weight : (n : ℕ) (h : A → ℕ) (x : A) (xs : List A) → sum_by (of_number n h) (x ∷ xs) ≡ 0 → sum_by (of_number n h) xs ≡ 0
  later-weight n h x xs none = let a = sum_by-cons (of_number n h) x xs in omega arith

  passing-step : (test : ℕ → Bool) (h : A → ℕ) (x : A) (passes : Bool) → test (number x) ≡ passes → (passes ≡ false → h x ≡ 0) → passing test h x ≡ h x
  passing-step test h x true is none = simp is refl
  passing-step test h x false is none = simp is (sym (none refl))

  failing-step : (test : ℕ → Bool) (h : A → ℕ) (x : A) (passes : Bool) → test (number x) ≡ passes → (passes ≡ true → h x ≡ 0) → passing test h x ≡ 0
  failing-step test h x true is none = simp is (none refl)
  failing-step test h x false is none = simp is refl

  module _ (test : ℕ → Bool) (h : A → ℕ) where
    -- what does not pass has no weight, so what passes has all
    pub all_pass : (xs : List A) → ((n : ℕ) → test n ≡ false → sum_by (of_number n h) xs ≡ 0) → sum_by (passing test h) xs ≡ sum_by h xs
    all_pass [] none = refl
    all_pass (x ∷ xs) none =
        let a = sum_by-cons h x xs in
        let b = sum_by-cons (passing test h) x xs in
        let here : passing test h x ≡ h x = passing-step test h x (test (number x)) refl (λ fails. own-weight h x xs (none (number x) fails)) in
        let later = all_pass xs (λ n fails. later-weight n h x xs (none n fails)) in
        omega arith

    -- and what passes has none where it has no weight
    pub none_pass : (xs : List A) → ((n : ℕ) → test n ≡ true → sum_by (of_number n h) xs ≡ 0) → sum_by (passing test h) xs ≡ 0
    none_pass [] none = refl
    none_pass (x ∷ xs) none =
        let b = sum_by-cons (passing test h) x xs in
        let here : passing test h x ≡ 0 = failing-step test h x (test (number x)) refl (λ passes. own-weight h x xs (none (number x) passes)) in
        let later = none_pass xs (λ n passes. later-weight n h x xs (none n passes)) in
        omega arith
