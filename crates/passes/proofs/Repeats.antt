-- Calls that are counted one after another, and calls that one try ends.
use Rattle.std.proofs.Common.{◌≡◌, ℕ, zero, suc, ◌+◌, List, [], ◌∷◌, refl, sym, ap, ◌∙◌, append-nil, get_or, set, arith}
use Rattle.ho_base.specs.Marks.{Mark}
use Rattle.ho_model.specs.declared.marks.EntryMark.{EntryMark}
use Rattle.passes.specs.Views.{PassView}
use Rattle.passes.specs.Calls.{IsSamePass, AddsEntry, AddsNoEntry, CountsOne}
use Rattle.passes.specs.Repeats.{Counts, MeetsMore, EndsByEntry, EndsWithoutEntry}

raised_twice : (made : List ℕ) (c a b : ℕ) → set (set made c (get_or made c 0 + a)) c (get_or (set made c (get_or made c 0 + a)) c 0 + b) ≡ set made c (get_or made c 0 + (a + b))
raised_twice [] c a b = refl
raised_twice (x ∷ made) zero a b = ap (λ (n : ℕ). n ∷ made) (omega arith)
raised_twice (x ∷ made) (suc c) a b = ap (λ (l : List ℕ). x ∷ l) (raised_twice made c a b)

module _ {O : Type 0} where
  -- calls of one pass, and then more
  pub counts_on : (p q r : PassView O) (a b : ℕ) → IsSamePass p q → Counts a p q → Counts b q r → Counts (a + b) p r
  counts_on p q r a b same x y =
      y ∙ (ap (λ (z : List ℕ × ℕ). set z.0 z.1 (get_or z.0 z.1 0 + b)) (λ i. (x i, same.caller i)) ∙ raised_twice p.made p.caller a b)

  same_met : (p q : PassView O) → q.met ≡ p.met → MeetsMore p q
  same_met p q same = ([], same ∙ sym (append-nil p.met))

  module _ (priority : Mark → ℕ) (p q : PassView O) (same : IsSamePass p q) (one : CountsOne p q) where
    -- a call that makes its entry at the first try
    pub ends_at_once : (before : List EntryMark) (e : EntryMark) → AddsEntry priority p before e q → EndsByEntry priority p before e q
    ends_at_once before e a = record { same = same; seen = a.seen; lawful = a.lawful; counted = (1, omega arith, one); met = same_met p q a.met }

    -- and one that ends without an entry
    pub ends_in_vain : AddsNoEntry priority p q → q.met ≡ p.met → EndsWithoutEntry priority p q
    ends_in_vain none met = record { same = same; no_entry = none; counted = (1, one); met = same_met p q met }
