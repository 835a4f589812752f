-- Lists of views, one of which changes. V is the view of any object.
use Rattle.std.proofs.Common.{◌≡◌, ◌≢◌, ℕ, suc, zero, ◌<◌, ◌⊎◌, ⊎_elim, inl, inr, List, [], ◌∷◌, ◌++◌, length, set, sym, refl, ap, ◌∙◌, subst, arith, length-set}
use mathlib.Core.Logic.{dite}
use native.Mathlib.Decide.{ℕ_discrete}
use mathlib.Core.Option.{some, some-injective, some-ne-none}
use lib.ListN.{get_elem?}
use Rattle.atomic_table.proofs.Lists.{at_set, set_here, set_else, at_longer}

module _ {V : Type 0} where
  -- a seat that has a view lies in the list
  pub at_inside : (vs : List V) (i : ℕ) (v : V) → get_elem? vs i ≡ some v → i < length vs
  at_inside [] i v e = absurd (some-ne-none v (sym e))
  at_inside (x ∷ xs) zero v e = omega arith
  at_inside (x ∷ xs) (suc i) v e = let b = at_inside xs i v e in omega arith

  -- a seat of a list with one more view is an old one or the new one
  pub at_end : (vs : List V) (v w : V) (j : ℕ) → get_elem? (vs ++ v ∷ []) j ≡ some w → (get_elem? vs j ≡ some w) ⊎ ((j ≡ length vs) × (v ≡ w))
  at_end [] v w zero e = inr (refl, some-injective v w e)
  at_end [] v w (suc j) e = absurd (some-ne-none w (sym e))
  at_end (x ∷ xs) v w zero e = inl e
  at_end (x ∷ xs) v w (suc j) e = ⊎_elim inl (λ (t : (j ≡ length xs) × (v ≡ w)). inr (ap suc t.0, t.1)) (at_end xs v w j e)

  -- a fact of each seat, after the view of one has changed
  pub seats_stay : (K : ℕ → V → Type 0) (vs : List V) (me : ℕ) (w : V) → K me w → ((j : ℕ) (u : V) → j ≢ me → get_elem? vs j ≡ some u → K j u) → (j : ℕ) (u : V) → get_elem? (set vs me w) j ≡ some u → K j u
  seats_stay K vs me w mine others j u e = ⊎_elim
      (λ (t : (j ≡ me) × (w ≡ u)). subst (λ (x : ℕ × V). K x.0 x.1) (λ i. (sym t.0 i, t.1 i)) mine)
      (λ (t : (j ≢ me) × (get_elem? vs j ≡ some u)). others j u t.0 t.1)
      (at_set vs me j w u e)

  -- the same where a seat with the view `right` is new
  pub seats_split : (K : ℕ → V → Type 0) (vs : List V) (me : ℕ) (left right : V) → K me left → K (length vs) right → ((j : ℕ) (u : V) → j ≢ me → get_elem? vs j ≡ some u → K j u)
      → (j : ℕ) (u : V) → get_elem? (set vs me left ++ right ∷ []) j ≡ some u → K j u
  seats_split K vs me left right mine new others j u e = ⊎_elim
      (seats_stay K vs me left mine others j u)
      (λ (t : (j ≡ length (set vs me left)) × (right ≡ u)). subst (λ (z : ℕ × V). K z.0 z.1) (λ i. (sym (t.0 ∙ length-set vs me left) i, t.1 i)) new)
      (at_end (set vs me left) right u j e)

  -- the same where the views of two seats changed
  pub seats_join : (K : ℕ → V → Type 0) (vs : List V) (me other : ℕ) (both spent : V) → K me both → K other spent → ((j : ℕ) (u : V) → j ≢ me → j ≢ other → get_elem? vs j ≡ some u → K j u)
      → (j : ℕ) (u : V) → get_elem? (set (set vs me both) other spent) j ≡ some u → K j u
  seats_join K vs me other both spent mine theirs others =
      seats_stay K (set vs me both) other spent theirs (λ j u not' e. seats_stay (λ k x. k ≢ other → K k x) vs me both (λ _. mine) (λ k x not y not''. others k x not not'' y) j u e not')

  -- a seat with some fact still has it, after the view of one has changed
  pub some_seat : (T : V → Type 0) (vs : List V) (me seat : ℕ) (v w : V) → get_elem? vs me ≡ some v → (T v → T w)
      → (x : V) × (get_elem? vs seat ≡ some x) × T x → (x : V) × (get_elem? (set vs me w) seat ≡ some x) × T x
  some_seat T vs me seat v w at go h = dite (ℕ_discrete seat me)
      (λ (e : seat ≡ me). let same : h.0 ≡ v = some-injective h.0 v (sym h.1 ∙ (ap (get_elem? vs) e ∙ at)) in
      (w, ap (get_elem? (set vs me w)) e ∙ set_here vs me w (at_inside vs me v at), go (subst T same h.2)))
      (λ (ne : seat ≢ me). (h.0, set_else vs me seat w ne ∙ h.1, h.2))

  -- the same where a seat is new
  pub some_longer : (T : V → Type 0) (vs : List V) (seat : ℕ) (right : V) → (x : V) × (get_elem? vs seat ≡ some x) × T x → (x : V) × (get_elem? (vs ++ right ∷ []) seat ≡ some x) × T x
  some_longer T vs seat right h = (h.0, at_longer vs (right ∷ []) seat h.0 h.1, h.2)

  -- a seat has one view
  pub one_view : (vs : List V) (seat me : ℕ) (u v : V) → get_elem? vs seat ≡ some u → get_elem? vs me ≡ some v → seat ≡ me → u ≡ v
  one_view vs seat me u v a b e = some-injective u v (sym a ∙ (ap (get_elem? vs) e ∙ b))
