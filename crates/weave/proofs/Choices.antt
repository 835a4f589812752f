-- The part of the least caller that can go on, found by going over the parts.
use Rattle.std.proofs.Common.{◌≡◌, ℕ, ◌+◌, ◌≤◌, List, slice_get, Option, Some, None, Bool, true, false, cond, refl, sym, ap, ◌∙◌, subst, arith, inl, inr}
use mathlib.Core.Logic.{dite}
use native.Mathlib.Decide.{ℕ_discrete}
use Rattle.std.proofs.lemmas.Bool.Decides.{leb_tells}
use Rattle.std.proofs.lemmas.Option.{same_Some}
use Rattle.weave.specs.declared.aheads.Ahead.{Ahead}
use Rattle.weave.specs.declared.least.Candidate.{Candidate}
use Rattle.weave.specs.Parts.{PartMade}
use Rattle.weave.specs.Aheads.{can_go, IsLeast, lesser}

module _ (room : ℕ) (aheads : List Ahead) (left : List PartMade) (n : ℕ) (p : PartMade) (at : slice_get left n ≡ Some p) where
  abbrev goes : PartMade → Bool
  goes q = can_go room aheads q.made

  clash : (q : PartMade) → goes q ≡ false → goes q ≡ true → ⊥
  clash q fails goes_on = let both : true ≡ false = sym goes_on ∙ fails in absurd (cc)

  same : (k : ℕ) (q : PartMade) → k ≡ n → slice_get left k ≡ Some q → p ≡ q
  same k q is there = same_Some p q (sym at ∙ (ap (slice_get left) (sym is) ∙ there))

  -- the next part can't go on
  pub stays_least : (least : Option Candidate) → IsLeast room aheads left n least → goes p ≡ false → IsLeast room aheads left (n + 1) least
  stays_least None h fails = λ k q lt there. dite (ℕ_discrete k n)
      (λ (is : k ≡ n). ap goes (sym (same k q is there)) ∙ fails)
      (λ (ne : k ≡ n → ⊥). h k q (omega (arith, lt, ne)) there)
  stays_least (Some c) h fails = (
    h.0,
    h.1,
    h.2,
    h.3,
    λ k q lt there goes_on. dite (ℕ_discrete k n)
        (λ (is : k ≡ n). absurd (clash p fails (ap goes (same k q is there) ∙ goes_on)))
        (λ (ne : k ≡ n → ⊥). h.4 k q (omega (arith, lt, ne)) there goes_on),
  )

  abbrev this : Candidate
  this = record { index = n; caller = p.caller }

  below_this : (k : ℕ) (q : PartMade) → k ≡ n → slice_get left k ≡ Some q → p.caller ≤ q.caller
  below_this k q is there = let e = ap (λ (x : PartMade). x.caller) (same k q is there) in omega (arith, e)

  -- the next part can, and its caller is lower, or not
  pub new_least : (least : Option Candidate) → IsLeast room aheads left n least → goes p ≡ true → IsLeast room aheads left (n + 1) (Some (lesser least this))
  new_least None h goes_on = (
    p,
    at,
    refl,
    goes_on,
    λ k q lt there goes_q. dite (ℕ_discrete k n)
        (λ (is : k ≡ n). below_this k q is there)
        (λ (ne : k ≡ n → ⊥). absurd (clash q (h k q (omega (arith, lt, ne)) there) goes_q)),
  )
  new_least (Some best) h goes_on = elim (leb_tells best.caller p.caller) [
    | inl le ↦ subst (λ b. IsLeast room aheads left (n + 1) (Some (cond b best this))) (sym le.0) (
      h.0,
      h.1,
      h.2,
      h.3,
      λ k q lt there goes_q. dite (ℕ_discrete k n)
          (λ (is : k ≡ n). let b = below_this k q is there in let a = le.1 in omega (arith, a, b))
          (λ (ne : k ≡ n → ⊥). h.4 k q (omega (arith, lt, ne)) there goes_q),
    )
    | inr gt ↦ subst (λ b. IsLeast room aheads left (n + 1) (Some (cond b best this))) (sym gt.0) (
      p,
      at,
      refl,
      goes_on,
      λ k q lt there goes_q. dite (ℕ_discrete k n)
          (λ (is : k ≡ n). below_this k q is there)
          (λ (ne : k ≡ n → ⊥). let b = h.4 k q (omega (arith, lt, ne)) there goes_q in let a = gt.1 in omega (arith, a, b)),
    )
  ]
