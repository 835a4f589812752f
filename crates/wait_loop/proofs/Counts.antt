-- How the counts of calls add up.
use Rattle.std.proofs.Common.{◌≡◌, ℕ, ◌+◌, List, [], ◌∷◌, refl, ap, zero, suc, arith}
use Rattle.wait_loop.specs.Own.{raised_by}

pub raised_by-none : (made : List ℕ) (c : ℕ) → raised_by made c 0 ≡ made
raised_by-none [] c = refl
raised_by-none (x ∷ xs) zero = let e : x + 0 ≡ x = omega arith in λ i. e i ∷ xs
raised_by-none (x ∷ xs) (suc c) = ap (λ (l : List ℕ). x ∷ l) (raised_by-none xs c)

-- some calls and then some
pub raised_by-on : (made : List ℕ) (c m n : ℕ) → raised_by (raised_by made c m) c n ≡ raised_by made c (m + n)
raised_by-on [] c m n = refl
raised_by-on (x ∷ xs) zero m n = let e : x + m + n ≡ x + (m + n) = omega arith in λ i. e i ∷ xs
raised_by-on (x ∷ xs) (suc c) m n = ap (λ (l : List ℕ). x ∷ l) (raised_by-on xs c m n)
