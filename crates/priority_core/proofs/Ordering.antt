-- Items with distinct keys have one order.
use Rattle.std.proofs.Common.{◌≡◌, refl, ap, ap₂, sym, ◌∙◌, ℕ, ◌+◌, ◌<◌, ◌≤◌, List, [], ◌∷◌, ◌++◌, Bool, true, false, cond, ◌==◌, nat_lt, arith, IsPermutation, count_by}
use Rattle.std.specs.List.{AllByRecursion}
use Rattle.std.proofs.lemmas.Bool.{ltb-true, ltb-false, eqb-false, eqb-true, eq-eqb}
use Rattle.std.proofs.lemmas.List.Elements.{All-from_recursion, recursion_from_All}
use Rattle.std.proofs.lemmas.List.Sorted.{All-permutation, sum_by-IsPermutation, IsPermutation-sym}
use Rattle.std.proofs.lemmas.List.Sums.{sum_by-cons}
use Rattle.priority_core.specs.Rank.{insert_by, ordered_by}

-- P holds of each item
abbrev pub Each : {X : Type 0} → (X → Type 0) → List X → Type 0
Each P xs = AllByRecursion P xs

pub each_weaker : {X : Type 0} (P Q : X → Type 0) → ((x : X) → P x → Q x) → (xs : List X) → Each P xs → Each Q xs
each_weaker P Q f [] h = tt
each_weaker P Q f (x ∷ xs) h = (f x h.0, each_weaker P Q f xs h.1)

each_both : {X : Type 0} (P Q R : X → Type 0) → ((x : X) → P x → Q x → R x) → (xs : List X) → Each P xs → Each Q xs → Each R xs
each_both P Q R f [] h k = tt
each_both P Q R f (x ∷ xs) h k = (f x h.0 k.0, each_both P Q R f xs h.1 k.1)

-- what holds of each item of us holds of each item of ws
abbrev pub Covers : {X : Type 0} → List X → List X → Type 1
Covers {X} us ws = (P : X → Type 0) → Each P us → Each P ws

pub permutation_covers : {X : Type 0} (xs ys : List X) → IsPermutation xs ys → Covers xs ys
permutation_covers xs ys h P e = recursion_from_All P ys (All-permutation P xs ys h (All-from_recursion P xs e))

module _ {X : Type 0} (key : X → ℕ) where
  -- each key is below those after it
  abbrev pub Rising : List X → Type 0
  Rising [] = Unit {0}
  Rising (x ∷ xs) = Each (λ y. key x < key y) xs × Rising xs

  -- no key stands twice
  abbrev pub Distinct : List X → Type 0
  Distinct xs = (k : ℕ) → count_by (λ y. key y == k) xs ≤ 1

  insert_step : (P : X → Type 0) (x y : X) (ys : List X) (m : Bool) → nat_lt (key x) (key y) ≡ m → P x → P y → Each P ys → Each P (insert_by key x ys) → Each P (insert_by key x (y ∷ ys))
  insert_step P x y ys true e p q rest more = simp e (p, (q, rest))
  insert_step P x y ys false e p q rest more = simp e (q, more)

  pub insert_each : (P : X → Type 0) (x : X) (ys : List X) → P x → Each P ys → Each P (insert_by key x ys)
  insert_each P x [] p h = (p, tt)
  insert_each P x (y ∷ ys) p h = insert_step P x y ys (nat_lt (key x) (key y)) refl p h.0 h.1 (insert_each P x ys p h.1)

  uninsert_step : (P : X → Type 0) (x y : X) (ys : List X) (m : Bool) → nat_lt (key x) (key y) ≡ m → (Each P (insert_by key x ys) → P x × Each P ys) → Each P (insert_by key x (y ∷ ys)) → P x × Each P (y ∷ ys)
  uninsert_step P x y ys true e more h = let h' : P x × (P y × Each P ys) = simp e at h in h'
  uninsert_step P x y ys false e more h =
      let h' : P y × Each P (insert_by key x ys) = simp e at h in
      ((more h'.1).0, (h'.0, (more h'.1).1))

  uninsert_each : (P : X → Type 0) (x : X) (ys : List X) → Each P (insert_by key x ys) → P x × Each P ys
  uninsert_each P x [] h = (h.0, tt)
  uninsert_each P x (y ∷ ys) h = uninsert_step P x y ys (nat_lt (key x) (key y)) refl (uninsert_each P x ys) h

  pub ordered_covers : (xs : List X) → Covers xs (ordered_by key xs)
  ordered_covers [] P h = tt
  ordered_covers (x ∷ xs) P h = insert_each P x (ordered_by key xs) h.0 (ordered_covers xs P h.1)

  pub covers_ordered : (xs : List X) → Covers (ordered_by key xs) xs
  covers_ordered [] P h = tt
  covers_ordered (x ∷ xs) P h =
      let both = uninsert_each P x (ordered_by key xs) h in
      (both.0, covers_ordered xs P both.1)

  -- two lists of the same items with rising keys are one
  pub one_rising : (us ws : List X) → Rising us → Rising ws → Covers us ws → Covers ws us → us ≡ ws
  one_rising [] [] a b f g = refl
  one_rising [] (w ∷ ws) a b f g = absurd (f (λ z. ⊥) tt).0
  one_rising (u ∷ us) [] a b f g = absurd (g (λ z. ⊥) tt).0
  one_rising (u ∷ us) (w ∷ ws) a b f g =
      let low : key u ≤ key w = (f (λ z. key u ≤ key z) (omega arith, each_weaker (λ z. key u < key z) (λ z. key u ≤ key z) (λ z l. omega arith) us a.0)).0 in
      let high : key w ≤ key u = (g (λ z. key w ≤ key z) (omega arith, each_weaker (λ z. key w < key z) (λ z. key w ≤ key z) (λ z l. omega arith) ws b.0)).0 in
      let same : key w ≡ key u = omega arith in
      let is : w ≡ u = (f (λ z. key z ≡ key u → z ≡ u) ((λ e. refl), each_weaker (λ z. key u < key z) (λ z. key z ≡ key u → z ≡ u) (λ z l e. absurd (omega arith)) us a.0)).0 same in
      let tails : Covers us ws = λ P h. each_both (λ z. key u < key z → P z) (λ z. key w < key z) P (λ z p l. p (omega arith)) ws (f (λ z. key u < key z → P z) ((λ l. absurd (omega arith)), each_weaker P (λ z. key u < key z → P z) (λ z p l. p) us h)).1 b.0 in
      let back : Covers ws us = λ P h. each_both (λ z. key w < key z → P z) (λ z. key u < key z) P (λ z p l. p (omega arith)) us (g (λ z. key w < key z → P z) ((λ l. absurd (omega arith)), each_weaker P (λ z. key w < key z → P z) (λ z p l. p) ws h)).1 a.0 in
      ap₂ (λ x xs. x ∷ xs) (sym is) (one_rising us ws a.1 b.1 tails back)

  strict : (x y : X) → (key y ≡ key x → ⊥) → key y ≤ key x → key y < key x
  strict x y other l = omega arith

  rising_step : (x y : X) (ys : List X) (m : Bool) → nat_lt (key x) (key y) ≡ m → (key y ≡ key x → ⊥) → Rising (y ∷ ys) → (key y < key x → Each (λ z. key y < key z) (insert_by key x ys)) → Rising (insert_by key x ys) → Rising (insert_by key x (y ∷ ys))
  rising_step x y ys true e other h above more =
      let l : key x < key y = ltb-true (key x) (key y) e in
      simp e ((l, each_weaker (λ z. key y < key z) (λ z. key x < key z) (λ z k. omega arith) ys h.0), h)
  rising_step x y ys false e other h above more =
      let l : key y ≤ key x = ltb-false (key x) (key y) e in
      simp e (above (strict x y other l), more)

  pub rising_insert : (x : X) (ys : List X) → Each (λ y. key y ≡ key x → ⊥) ys → Rising ys → Rising (insert_by key x ys)
  rising_insert x [] other h = (tt, tt)
  rising_insert x (y ∷ ys) other h =
      rising_step x y ys (nat_lt (key x) (key y)) refl other.0 h (λ l. insert_each (λ z. key y < key z) x ys l h.0) (rising_insert x ys other.1 h.1)

  counted : (k : ℕ) (x : X) (xs : List X) → count_by (λ y. key y == k) (x ∷ xs) ≡ cond (key x == k) 1 0 + count_by (λ y. key y == k) xs
  counted k x xs = sum_by-cons (λ y. cond (key y == k) 1 0) x xs

  uncounted_step : (k : ℕ) (x : X) (xs : List X) (m : Bool) → (key x == k) ≡ m → count_by (λ y. key y == k) (x ∷ xs) ≤ 0 → (key x ≡ k → ⊥) × (count_by (λ y. key y == k) xs ≤ 0)
  uncounted_step k x xs true e h = let c = counted k x xs in let c' : count_by (λ y. key y == k) (x ∷ xs) ≡ 1 + count_by (λ y. key y == k) xs = c ∙ ap (λ b. cond b 1 0 + count_by (λ y. key y == k) xs) e in absurd (omega arith)
  uncounted_step k x xs false e h =
      let c : count_by (λ y. key y == k) (x ∷ xs) ≡ 0 + count_by (λ y. key y == k) xs = counted k x xs ∙ ap (λ b. cond b 1 0 + count_by (λ y. key y == k) xs) e in
      (eqb-false (key x) k e, omega arith)

  uncounted : (k : ℕ) (xs : List X) → count_by (λ y. key y == k) xs ≤ 0 → Each (λ y. key y ≡ k → ⊥) xs
  uncounted k [] h = tt
  uncounted k (x ∷ xs) h = let s = uncounted_step k x xs (key x == k) refl h in (s.0, uncounted k xs s.1)

  absent_step : (k : ℕ) (x : X) (xs : List X) (m : Bool) → (key x == k) ≡ m → key x < k → count_by (λ y. key y == k) xs ≡ 0 → count_by (λ y. key y == k) (x ∷ xs) ≡ 0
  absent_step k x xs true e l h = let is : key x ≡ k = eqb-true (key x) k e in absurd (omega arith)
  absent_step k x xs false e l h =
      counted k x xs ∙ ap (λ b. cond b 1 0 + count_by (λ y. key y == k) xs) e ∙ (let z : 0 + count_by (λ y. key y == k) xs ≡ 0 = omega arith in z)

  absent : (k : ℕ) (xs : List X) → Each (λ y. key y < k) xs → count_by (λ y. key y == k) xs ≡ 0
  absent k [] h = refl
  absent k (x ∷ xs) h = absent_step k x xs (key x == k) refl h.0 (absent k xs h.1)

  pub distinct_tail : (x : X) (xs : List X) → Distinct (x ∷ xs) → Distinct xs
  distinct_tail x xs d k = let c = counted k x xs in let h = d k in omega arith

  pub apart : (x : X) (xs : List X) → Distinct (x ∷ xs) → Each (λ y. key y ≡ key x → ⊥) xs
  apart x xs d =
      let c : count_by (λ y. key y == key x) (x ∷ xs) ≡ 1 + count_by (λ y. key y == key x) xs = counted (key x) x xs ∙ ap (λ b. cond b 1 0 + count_by (λ y. key y == key x) xs) (eq-eqb (key x) (key x) refl) in
      let h = d (key x) in
      uncounted (key x) xs (omega arith)

  cons_step : (k : ℕ) (x : X) (xs : List X) (m : Bool) → (key x == k) ≡ m → Each (λ y. key y < key x) xs → Distinct xs → count_by (λ y. key y == k) (x ∷ xs) ≤ 1
  cons_step k x xs true e below d =
      let is : key x ≡ k = eqb-true (key x) k e in
      let none : count_by (λ y. key y == k) xs ≡ 0 = absent k xs (each_weaker (λ y. key y < key x) (λ y. key y < k) (λ y l. omega arith) xs below) in
      let c : count_by (λ y. key y == k) (x ∷ xs) ≡ 1 + count_by (λ y. key y == k) xs = counted k x xs ∙ ap (λ b. cond b 1 0 + count_by (λ y. key y == k) xs) e in
      omega arith
  cons_step k x xs false e below d =
      let h = d k in
      let c : count_by (λ y. key y == k) (x ∷ xs) ≡ 0 + count_by (λ y. key y == k) xs = counted k x xs ∙ ap (λ b. cond b 1 0 + count_by (λ y. key y == k) xs) e in
      omega arith

  pub distinct_cons : (x : X) (xs : List X) → Each (λ y. key y < key x) xs → Distinct xs → Distinct (x ∷ xs)
  distinct_cons x xs below d k = cons_step k x xs (key x == k) refl below d

  pub distinct_permutation : (xs ys : List X) → IsPermutation xs ys → Distinct xs → Distinct ys
  distinct_permutation xs ys h d k =
      let e = sum_by-IsPermutation (λ y. cond (key y == k) 1 0) xs ys h in
      let l = d k in
      omega arith

  pub rising_ordered : (xs : List X) → Distinct xs → Rising (ordered_by key xs)
  rising_ordered [] d = tt
  rising_ordered (x ∷ xs) d =
      rising_insert x (ordered_by key xs) (ordered_covers xs (λ y. key y ≡ key x → ⊥) (apart x xs d)) (rising_ordered xs (distinct_tail x xs d))

  -- the order does not depend on where the items lie
  pub one_order : (xs ys : List X) → IsPermutation xs ys → Distinct xs → ordered_by key xs ≡ ordered_by key ys
  one_order xs ys h d =
      one_rising (ordered_by key xs) (ordered_by key ys) (rising_ordered xs d) (rising_ordered ys (distinct_permutation xs ys h d))
      (λ P e. ordered_covers ys P (permutation_covers xs ys h P (covers_ordered xs P e)))
      (λ P e. ordered_covers xs P (permutation_covers ys xs (IsPermutation-sym xs ys h) P (covers_ordered ys P e)))

  last_step : (x y : X) (ys : List X) (m : Bool) → nat_lt (key x) (key y) ≡ m → key y < key x → insert_by key x ys ≡ ys ++ x ∷ [] → insert_by key x (y ∷ ys) ≡ (y ∷ ys) ++ x ∷ []
  last_step x y ys true e l more = let k : key x < key y = ltb-true (key x) (key y) e in absurd (omega arith)
  last_step x y ys false e l more = simp e (ap (λ zs. y ∷ zs) more)

  insert_last : (x : X) (ys : List X) → Each (λ y. key y < key x) ys → insert_by key x ys ≡ ys ++ x ∷ []
  insert_last x [] h = refl
  insert_last x (y ∷ ys) h = last_step x y ys (nat_lt (key x) (key y)) refl h.0 (insert_last x ys h.1)

  -- an item of a greater key comes last
  pub ordered_push : (x : X) (xs ys : List X) → IsPermutation (x ∷ xs) ys → Distinct xs → Each (λ y. key y < key x) xs → ordered_by key ys ≡ ordered_by key xs ++ x ∷ []
  ordered_push x xs ys h d below =
      sym (one_order (x ∷ xs) ys h (distinct_cons x xs below d)) ∙ insert_last x (ordered_by key xs) (ordered_covers xs (λ y. key y < key x) below)
