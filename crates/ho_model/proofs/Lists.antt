-- What stands at a place of a list, by `slice_get`.
use Rattle.std.proofs.Common.{◌≡◌, ℕ, suc, zero, ◌+◌, List, [], ◌∷◌, ◌++◌, length, drop, slice_get, Some, None, refl, ap, ◌∙◌, arith}

-- what stands in a list stands there in a longer one
pub slice_get_longer : {A : Type 0} (xs ys : List A) (i : ℕ) (x : A) → slice_get xs i ≡ Some x → slice_get (xs ++ ys) i ≡ Some x
slice_get_longer [] ys i x h = let no : None ≡ Some x = h in cc
slice_get_longer (y ∷ xs) ys zero x h = h
slice_get_longer (y ∷ xs) ys (suc i) x h = slice_get_longer xs ys i x h

-- what stands behind others
pub slice_get_behind : {A : Type 0} (xs : List A) (x : A) (ys : List A) → slice_get (xs ++ x ∷ ys) (length xs) ≡ Some x
slice_get_behind [] x ys = refl
slice_get_behind (y ∷ xs) x ys = slice_get_behind xs x ys

-- what is left when the first ones are dropped
pub slice_get-drop : {A : Type 0} (n : ℕ) (xs : List A) (i : ℕ) → slice_get (drop n xs) i ≡ slice_get xs (n + i)
slice_get-drop zero xs i = let e : i ≡ 0 + i = omega arith in ap (slice_get xs) e
slice_get-drop (suc n) [] i = refl
slice_get-drop (suc n) (x ∷ xs) i = let e : suc (n + i) ≡ suc n + i = omega arith in slice_get-drop n xs i ∙ ap (slice_get (x ∷ xs)) e
