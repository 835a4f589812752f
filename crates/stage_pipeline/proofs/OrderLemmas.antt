-- Lists in the order of a test.
use Rattle.std.proofs.Common.{◌≡◌, ◌≤◌, suc, zero, List, [], ◌∷◌, ◌++◌, Bool, true, false, length, map, ap, sym, subst, ◌∙◌, ◌⊎◌, inl, inr, refl, arith}
use Rattle.std.proofs.lemmas.Bool.{false_from_ne_true, both_ways}
use Rattle.std.proofs.lemmas.List.Elements.{All-append, All-head, All-map, All-tail}
use Rattle.std.proofs.lemmas.List.Kept.{AllPairs-cons}
use Rattle.std.proofs.lemmas.List.Sorted.{Contains-permutation, IsPermutation-sym, length_permutation}
use Rattle.std.specs.Cmp.{IsStrictWeakOrder}
use Rattle.std.specs.List.{All, AllPairs, Contains}
use Rattle.std.specs.List.Sorted.{IsPermutation}

-- each stands before all later ones
abbrev pub Rises : {X : Type 0} → (X → X → Bool) → List X → Type 0
Rises lt xs = AllPairs (λ a b. lt a b ≡ true) xs

-- none stands before an earlier one
abbrev pub IsInOrder : {X : Type 0} → (X → X → Bool) → List X → Type 0
IsInOrder lt xs = AllPairs (λ a b. lt b a ≡ false) xs

-- 1. What holds of pairs

pub pairs_tail : {X : Type 0} (R : X → X → Type 0) (x : X) (xs : List X) → AllPairs R (x ∷ xs) → AllPairs R xs
pairs_tail R x xs h = λ i j d lt within. h (suc i) (suc j) d (omega (arith, lt)) (omega (arith, within))

pub pairs_head : {X : Type 0} (R : X → X → Type 0) (x : X) (xs : List X) → AllPairs R (x ∷ xs) → All (R x) xs
pairs_head R x xs h = λ k d within. h 0 (suc k) d (omega arith) (omega (arith, within))

pub pairs_nil : {X : Type 0} (R : X → X → Type 0) → AllPairs R []
pairs_nil R = λ i j d lt within. absurd (omega (arith, within))

pub pairs_map : {X Y : Type 0} (R : Y → Y → Type 0) (f : X → Y) (xs : List X) → AllPairs (λ a b. R (f a) (f b)) xs → AllPairs R (map f xs)
pairs_map R f [] h = pairs_nil R
pairs_map R f (x ∷ xs) h =
    AllPairs-cons R (f x) (map f xs) (All-map (R (f x)) f xs (pairs_head (λ a b. R (f a) (f b)) x xs h)) (pairs_map R f xs (pairs_tail (λ a b. R (f a) (f b)) x xs h))

pub pairs_append : {X : Type 0} (R : X → X → Type 0) (xs ys : List X) → AllPairs R xs → AllPairs R ys → All (λ x. All (R x) ys) xs → AllPairs R (xs ++ ys)
pairs_append R [] ys first second across = second
pairs_append R (x ∷ xs) ys first second across =
    AllPairs-cons R x (xs ++ ys) (All-append (R x) xs ys (pairs_head R x xs first) (All-head (λ a. All (R a) ys) x xs across))
    (pairs_append R xs ys (pairs_tail R x xs first) second (All-tail (λ a. All (R a) ys) x xs across))

-- 2. A list that rises is the only one of its elements that stands in order

contains_cases : {X : Type 0} (y : X) (ys : List X) (z : X) → Contains (y ∷ ys) z → (y ≡ z) ⊎ Contains ys z
contains_cases y ys z (zero, within, is) = inl is
contains_cases y ys z (suc k, within, is) = inr (k, omega (arith, within), is)

contains_later : {X : Type 0} (x : X) (xs : List X) (z : X) → Contains xs z → Contains (x ∷ xs) z
contains_later x xs z h = (suc h.0, omega (arith, h.1), h.2)

contains_first : {X : Type 0} (x : X) (xs : List X) → Contains (x ∷ xs) x
contains_first x xs = (0, omega arith, refl)

all_at : {X : Type 0} (P : X → Type 0) (xs : List X) (z : X) → All P xs → Contains xs z → P z
all_at P xs z h at = subst P at.2 (h at.0 z at.1)

abbrev Has : {X : Type 0} → List X → List X → Type 0
Has {X} ys xs = (z : X) → Contains xs z → Contains ys z

-- the first elements are one: the others have each other
same_first : {X : Type 0} (lt : X → X → Bool) → ((x : X) → lt x x ≡ false) → (x : X) (xs : List X) (y : X) (ys : List X) → Rises lt (x ∷ xs) → y ≡ x → Has (y ∷ ys) (x ∷ xs) → Has ys xs
same_first lt once x xs y ys up same has z at =
    on (contains_cases y ys z (has z (contains_later x xs z at)))
  where
    on : (y ≡ z) ⊎ Contains ys z → Contains ys z
    on (inl is) =
        let rises : lt x z ≡ true = all_at (λ b. lt x b ≡ true) xs z (pairs_head (λ a b. lt a b ≡ true) x xs up) at in
        let stays : lt x z ≡ false = subst (λ b. lt x b ≡ false) (sym same ∙ is) (once x) in
        absurd (both_ways (lt x z) stays rises)
    on (inr later) = later

-- the first element of the one is a later one of the other: that has all of them later
later_first : {X : Type 0} (lt : X → X → Bool) (x : X) (xs : List X) (y : X) (ys : List X) → Rises lt (x ∷ xs) → IsInOrder lt (y ∷ ys) → Contains ys x → Has (y ∷ ys) (x ∷ xs) → Has ys (x ∷ xs)
later_first lt x xs y ys up down first has z at =
    on (contains_cases x xs z at) (contains_cases y ys z (has z at))
  where
    on : (x ≡ z) ⊎ Contains xs z → (y ≡ z) ⊎ Contains ys z → Contains ys z
    on (inl is) other = subst (Contains ys) is first
    on (inr at) (inr later) = later
    on (inr at) (inl is) =
        let rises : lt x z ≡ true = all_at (λ b. lt x b ≡ true) xs z (pairs_head (λ a b. lt a b ≡ true) x xs up) at in
        let stays : lt x y ≡ false = all_at (λ b. lt b y ≡ false) ys x (pairs_head (λ a b. lt b a ≡ false) y ys down) first in
        absurd (both_ways (lt x z) (subst (λ b. lt x b ≡ false) is stays) rises)

as_long : {X : Type 0} (lt : X → X → Bool) → ((x : X) → lt x x ≡ false) → (ys xs : List X) → Rises lt xs → IsInOrder lt ys → Has ys xs → length xs ≤ length ys
as_long lt once ys [] up down has = omega arith
as_long lt once [] (x ∷ xs) up down has = absurd (omega (arith, (has x (contains_first x xs)).1))
as_long lt once (y ∷ ys) (x ∷ xs) up down has =
    on (contains_cases y ys x (has x (contains_first x xs))) (as_long lt once ys xs) (as_long lt once ys (x ∷ xs))
  where
    on : (y ≡ x) ⊎ Contains ys x → (Rises lt xs → IsInOrder lt ys → Has ys xs → length xs ≤ length ys) → (Rises lt (x ∷ xs) → IsInOrder lt ys → Has ys (x ∷ xs) → length (x ∷ xs) ≤ length ys) → length (x ∷ xs) ≤ length (y ∷ ys)
    on (inl same) rest whole =
        let k = rest (pairs_tail (λ a b. lt a b ≡ true) x xs up) (pairs_tail (λ a b. lt b a ≡ false) y ys down) (same_first lt once x xs y ys up same has) in omega (arith, k)
    on (inr later) rest whole =
        let k = whole up (pairs_tail (λ a b. lt b a ≡ false) y ys down) (later_first lt x xs y ys up down later has) in omega (arith, k)

only_one : {X : Type 0} (lt : X → X → Bool) → ((x : X) → lt x x ≡ false) → (xs ys : List X) → Rises lt xs → IsInOrder lt ys → Has ys xs → length ys ≤ length xs → ys ≡ xs
only_one lt once [] [] up down has short = refl
only_one lt once [] (y ∷ ys) up down has short = absurd (omega (arith, short))
only_one lt once (x ∷ xs) [] up down has short = absurd (omega (arith, (has x (contains_first x xs)).1))
only_one lt once (x ∷ xs) (y ∷ ys) up down has short =
    on (contains_cases y ys x (has x (contains_first x xs))) (only_one lt once xs ys)
  where
    on : (y ≡ x) ⊎ Contains ys x → (Rises lt xs → IsInOrder lt ys → Has ys xs → length ys ≤ length xs → ys ≡ xs) → y ∷ ys ≡ x ∷ xs
    on (inl same) rest =
        ap (λ z. z ∷ ys) same ∙ ap (λ zs. x ∷ zs) (rest (pairs_tail (λ a b. lt a b ≡ true) x xs up) (pairs_tail (λ a b. lt b a ≡ false) y ys down) (same_first lt once x xs y ys up same has) (omega (arith, short)))
    on (inr later) rest =
        let k = as_long lt once ys (x ∷ xs) up (pairs_tail (λ a b. lt b a ≡ false) y ys down) (later_first lt x xs y ys up down later has) in absurd (omega (arith, k, short))

never_before_itself : {X : Type 0} (lt : X → X → Bool) → IsStrictWeakOrder lt → (x : X) → lt x x ≡ false
never_before_itself lt o x = false_from_ne_true (lt x x) (λ e. both_ways (lt x x) (o.one_way x x e) e)

pub sorted_is_one : {X : Type 0} (lt : X → X → Bool) → IsStrictWeakOrder lt → (ys xs : List X) → IsPermutation ys xs → IsInOrder lt ys → Rises lt xs → ys ≡ xs
sorted_is_one lt o ys xs moved down up =
    let back = IsPermutation-sym ys xs moved in
    let count = length_permutation ys xs moved in
    only_one lt (never_before_itself lt o) xs ys up down (λ z at. Contains-permutation xs ys z back at) (omega (arith, count))
