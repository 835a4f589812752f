-- What members did, by place.
use Rattle.std.proofs.Common.{◌≡◌, ◌≢◌, ℕ, ◌<◌, ◌≤◌, ◌+◌, List, [], ◌∷◌, ◌++◌, get_or, set, length, cond, eqb, ltb, Bool, true, false, sym, refl, ap, ◌∙◌, subst, arith, eq-eqb, ne_eqb, lt-ltb, inl, inr, ◌⊎◌}
use Rattle.std.proofs.lemmas.List.{get_or-set_same, get_or-set_other, get_or_default, length-set}
use Rattle.std.proofs.lemmas.Bool.{cases_eq, cases_lt}
use Rattle.std.proofs.lemmas.Bool.Decides.{nat_tests}
use Rattle.std.proofs.Math.Nat.{eq-or-lt_of_le}
use Rattle.ho_base.specs.Marks.{Mark}
use Rattle.turn_lock.specs.Passes.{LockPass}
use Rattle.blocking_collection.specs.Own.{OwnCall, Did, DidOrRests}
use Rattle.blocking_collection.specs.Several.{AllDid, round}
use Rattle.blocking_collection.proofs.Doing.{rests, both_on}

module _ (pr : Mark → ℕ) where
  -- passes that have done nothing
  pub all_none : (ps : List LockPass) → AllDid pr ps (λ j. []) ps
  all_none ps = record { size = refl; each = λ i p lt. rests pr (get_or ps i p) }

  -- the deeds by another name
  pub all_same : (old new : List LockPass) (ds es : ℕ → List OwnCall) → ((j : ℕ) → j < length old → es j ≡ ds j) → AllDid pr old ds new → AllDid pr old es new
  all_same old new ds es same a = record { size = a.size; each = λ i p lt. subst (λ (l : List OwnCall). DidOrRests pr (get_or old i p) l (get_or new i p)) (sym (same i lt)) (a.each i p lt) }

  -- one after another
  pub all_on : (a b c : List LockPass) (ds es : ℕ → List OwnCall) → AllDid pr a ds b → AllDid pr b es c → AllDid pr a (λ j. ds j ++ es j) c
  all_on a b c ds es x y = record {
    size = y.size ∙ x.size;
    each = λ i p lt. both_on pr (get_or a i p) (get_or b i p) (get_or c i p) (ds i) (es i) (x.each i p lt) (y.each i p (subst (λ (n : ℕ). i < n) (sym x.size) lt));
  }

  -- the member at k did more
  pub all_set : (old mid : List LockPass) (k : ℕ) (d q : LockPass) (more : List OwnCall) (ds es : ℕ → List OwnCall) → AllDid pr old ds mid → k < length old → DidOrRests pr (get_or mid k d) more q
      → es k ≡ ds k ++ more → ((j : ℕ) → j ≢ k → es j ≡ ds j) → AllDid pr old es (set mid k q)
  all_set old mid k d q more ds es a lt did here there = record { size = length-set mid k q ∙ a.size; each = λ i p l. at i p l (cases_eq i k) }
    where
      lt_mid : k < length mid
      lt_mid = subst (λ (n : ℕ). k < n) (sym a.size) lt

      at_k : (p : LockPass) → DidOrRests pr (get_or old k p) (es k) (get_or (set mid k q) k p)
      at_k p =
          subst (λ (z : LockPass). DidOrRests pr (get_or old k p) (es k) z) (sym (get_or-set_same mid k q p lt_mid))
          (subst (λ (l : List OwnCall). DidOrRests pr (get_or old k p) l q) (sym here)
          (both_on pr (get_or old k p) (get_or mid k p) q (ds k) more (a.each k p lt) (subst (λ (z : LockPass). DidOrRests pr z more q) (get_or_default mid k d p lt_mid) did)))

      at : (i : ℕ) (p : LockPass) → i < length old → (i ≡ k) ⊎ (i ≢ k) → DidOrRests pr (get_or old i p) (es i) (get_or (set mid k q) i p)
      at i p l (inl is) = subst (λ (z : ℕ). DidOrRests pr (get_or old z p) (es z) (get_or (set mid k q) z p)) (sym is) (at_k p)
      at i p l (inr is) =
          subst (λ (z : LockPass). DidOrRests pr (get_or old i p) (es i) z) (sym (get_or-set_other mid k i q p is))
          (subst (λ (l : List OwnCall). DidOrRests pr (get_or old i p) l (get_or mid i p)) (sym (there i is)) (a.each i p l))

  -- rounds
  not_before : (j k : ℕ) → k ≤ j → ltb j k ≡ false
  not_before j k h = grind (arith, nat_tests)

  no_more : (b : Bool) → cond {A = List OwnCall} b [] [] ≡ []
  no_more true = refl
  no_more false = refl

  round_here : (k : ℕ) (each : ℕ → OwnCall) (last : List OwnCall) → round k each last k ≡ last
  round_here k each last = rw (not_before k k (omega arith), eq-eqb k k refl) refl

  round_before : (k j : ℕ) (each : ℕ → OwnCall) (last : List OwnCall) → j < k → round k each last j ≡ each j ∷ []
  round_before k j each last lt = rw (lt-ltb j k lt) refl

  round_else : (k j : ℕ) (each : ℕ → OwnCall) (last more : List OwnCall) → j ≢ k → round k each last j ≡ round k each more j
  round_else k j each last more ne = rw (ne_eqb j k ne) refl

  -- what is done at k
  pub round_at : (old mid : List LockPass) (k : ℕ) (d q : LockPass) (each : ℕ → OwnCall) (last : List OwnCall) → AllDid pr old (round k each []) mid → k < length old → Did pr (get_or mid k d) last q → AllDid pr old (round k each last) (set mid k q)
  round_at old mid k d q each last a lt did =
      all_set old mid k d q last (round k each []) (round k each last) a lt (inr did)
      (round_here k each last ∙ ap (λ (l : List OwnCall). l ++ last) (sym (round_here k each [])))
      (λ j ne. round_else k j each last [] ne)

  -- the next place
  round_more : (k j : ℕ) (each : ℕ → OwnCall) → (j < k) ⊎ ((j ≡ k) ⊎ (k < j)) → round (k + 1) each [] j ≡ round k each (each k ∷ []) j
  round_more k j each (inl lt) = round_before (k + 1) j each [] (omega arith) ∙ sym (round_before k j each (each k ∷ []) lt)
  round_more k j each (inr (inl is)) =
      subst (λ (z : ℕ). round (k + 1) each [] z ≡ round k each (each k ∷ []) z) (sym is) (round_before (k + 1) k each [] (omega arith) ∙ sym (round_here k each (each k ∷ [])))
  round_more k j each (inr (inr lt)) =
      rw (not_before j (k + 1) (omega arith), not_before j k (omega arith), ne_eqb j k (λ e. omega arith), no_more (eqb j (k + 1))) refl

  three : (j k : ℕ) → (j < k) ⊎ ((j ≡ k) ⊎ (k < j))
  three j k = at (cases_lt j k)
    where
      behind : (k ≡ j) ⊎ (k < j) → (j < k) ⊎ ((j ≡ k) ⊎ (k < j))
      behind (inl is) = inr (inl (sym is))
      behind (inr lt) = inr (inr lt)

      at : (j < k) ⊎ (k ≤ j) → (j < k) ⊎ ((j ≡ k) ⊎ (k < j))
      at (inl lt) = inl lt
      at (inr le) = behind (eq-or-lt_of_le le)

  pub round_on : (old mid : List LockPass) (k : ℕ) (d q : LockPass) (each : ℕ → OwnCall) → AllDid pr old (round k each []) mid → k < length old → Did pr (get_or mid k d) (each k ∷ []) q → AllDid pr old (round (k + 1) each []) (set mid k q)
  round_on old mid k d q each a lt did =
      all_same old (set mid k q) (round k each (each k ∷ [])) (round (k + 1) each []) (λ j l. round_more k j each (three j k)) (round_at old mid k d q each (each k ∷ []) a lt did)

  round_zero : (each : ℕ → OwnCall) (j : ℕ) → round 0 each [] j ≡ []
  round_zero each j = rw (not_before j 0 (omega arith)) (no_more (eqb j 0))

  pub round_start : (ps : List LockPass) (each : ℕ → OwnCall) → AllDid pr ps (round 0 each []) ps
  round_start ps each = all_same ps ps (λ j. []) (round 0 each []) (λ j l. round_zero each j) (all_none ps)

  pub round_end : (old new : List LockPass) (n : ℕ) (each : ℕ → OwnCall) → length old ≤ n → AllDid pr old (round n each []) new → AllDid pr old (λ j. each j ∷ []) new
  round_end old new n each le a = all_same old new (round n each []) (λ j. each j ∷ []) (λ j lt. sym (round_before n j each [] (omega arith))) a

  -- a round depends on what is done before k
  pub same_round : (k j : ℕ) (e f : ℕ → OwnCall) → (j < k → e j ≡ f j) → round k e [] j ≡ round k f [] j
  same_round k j e f same = at (cases_lt j k)
    where
      at : (j < k) ⊎ (k ≤ j) → round k e [] j ≡ round k f [] j
      at (inl lt) = round_before k j e [] lt ∙ (ap (λ (d : OwnCall). d ∷ []) (same lt) ∙ sym (round_before k j f [] lt))
      at (inr le) = rw (not_before j k le) refl
