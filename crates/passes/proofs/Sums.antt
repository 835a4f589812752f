-- A sum over the views of all seats, one of which changes. V is the view of any object, and g what a seat has a share of.
use Rattle.std.proofs.Common.{◌≡◌, ◌≢◌, ℕ, suc, zero, ◌+◌, ◌<◌, ◌≤◌, List, [], ◌∷◌, ◌++◌, set, sym, refl, ap, ◌∙◌, arith, sum_by}
use Rattle.std.proofs.lemmas.List.Sums.{sum_by-cons, sum_by_push}
use mathlib.Core.Option.{some, some-injective, some-ne-none}
use lib.ListN.{get_elem?}
use Rattle.atomic_table.proofs.Lists.{set_else}

module _ {V : Type 0} (g : V → ℕ) where
  abbrev total : List V → ℕ
  total vs = sum_by g vs

  -- the view of one seat changes
  pub total_set : (vs : List V) (me : ℕ) (v w : V) → get_elem? vs me ≡ some v → total (set vs me w) + g v ≡ total vs + g w
  total_set [] me v w e = absurd (some-ne-none v (sym e))
  total_set (x ∷ xs) zero v w e = let h : g x ≡ g v = ap g (some-injective x v e) in let a = sum_by-cons g x xs in let b = sum_by-cons g w xs in omega arith
  total_set (x ∷ xs) (suc me) v w e = let h = total_set xs me v w e in let a = sum_by-cons g x xs in let b = sum_by-cons g x (set xs me w) in omega arith

  -- a seat is new
  pub total_more : (vs : List V) (new : V) → total (vs ++ new ∷ []) ≡ total vs + g new
  total_more vs new = sum_by_push g vs new

  -- a split: the view of one seat changes, and a seat is new
  pub total_split : (vs : List V) (me : ℕ) (v left right : V) → get_elem? vs me ≡ some v → total (set vs me left ++ right ∷ []) + g v ≡ total vs + g left + g right
  total_split vs me v left right e = let a = total_set vs me v left e in let b = total_more (set vs me left) right in omega arith

  -- a join: the views of two seats change
  pub total_join : (vs : List V) (me other : ℕ) (v w both spent : V) → other ≢ me → get_elem? vs me ≡ some v → get_elem? vs other ≡ some w → total (set (set vs me both) other spent) + g v + g w ≡ total vs + g both + g spent
  total_join vs me other v w both spent apart e f =
      let a = total_set vs me v both e in let b = total_set (set vs me both) other w spent (set_else vs me other both apart ∙ f) in omega arith

  -- a seat's share is within the sum, and so are two seats'
  pub total_has : (vs : List V) (j : ℕ) (v : V) → get_elem? vs j ≡ some v → g v ≤ total vs
  total_has [] j v e = absurd (some-ne-none v (sym e))
  total_has (x ∷ xs) zero v e = let h : g x ≡ g v = ap g (some-injective x v e) in let a = sum_by-cons g x xs in omega arith
  total_has (x ∷ xs) (suc j) v e = let h = total_has xs j v e in let a = sum_by-cons g x xs in omega arith

  pub total_both : (vs : List V) (j k : ℕ) (v w : V) → j ≢ k → get_elem? vs j ≡ some v → get_elem? vs k ≡ some w → g v + g w ≤ total vs
  total_both [] j k v w ne e f = absurd (some-ne-none v (sym e))
  total_both (x ∷ xs) zero zero v w ne e f = absurd (ne refl)
  total_both (x ∷ xs) zero (suc k) v w ne e f = let h : g x ≡ g v = ap g (some-injective x v e) in let a = sum_by-cons g x xs in let b = total_has xs k w f in omega arith
  total_both (x ∷ xs) (suc j) zero v w ne e f = let h : g x ≡ g w = ap g (some-injective x w f) in let a = sum_by-cons g x xs in let b = total_has xs j v e in omega arith
  total_both (x ∷ xs) (suc j) (suc k) v w ne e f = let h = total_both xs j k v w (λ is. ne (ap suc is)) e f in let a = sum_by-cons g x xs in omega arith

  -- a sum that is not 0 has a seat with a share
  pub total_some : (vs : List V) → 0 < total vs → (j : ℕ) × (v : V) × (get_elem? vs j ≡ some v) × (0 < g v)
  total_some [] h = absurd (omega arith)
  total_some (x ∷ xs) h = by_share (g x) refl (total_some xs)
    where
      by_share : (share : ℕ) → g x ≡ share → (0 < total xs → (j : ℕ) × (v : V) × (get_elem? xs j ≡ some v) × (0 < g v)) → (j : ℕ) × (v : V) × (get_elem? (x ∷ xs) j ≡ some v) × (0 < g v)
      by_share zero is rest = let a = sum_by-cons g x xs in let t = rest (omega arith) in (suc t.0, t.1, t.2, t.3)
      by_share (suc share) is rest = (0, x, refl, omega arith)

-- shares that are counted anew: where each seat has the same, the sum is the same
pub total_same : {V : Type 0} (g h : V → ℕ) (vs : List V) → ((j : ℕ) (v : V) → get_elem? vs j ≡ some v → g v ≡ h v) → sum_by g vs ≡ sum_by h vs
total_same g h [] same = refl
total_same g h (x ∷ xs) same = let here : g x ≡ h x = same 0 x refl in let rest = total_same g h xs (λ j v e. same (suc j) v e) in let a = sum_by-cons g x xs in let b = sum_by-cons h x xs in omega arith
