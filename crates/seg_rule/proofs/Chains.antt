-- What a stale note still says, and how the chain moves.
use Rattle.std.proofs.Common.{◌*◌, ◌≡◌, ℕ, zero, suc, ◌+◌, ◌-◌, ◌<◌, ◌≤◌, ◌≢◌, ◌⊎◌, inl, inr, ⊎_elim, cond, sym, refl, ap, ◌∙◌, subst, arith, eq-eqb, ne_eqb, le_refl}
use Rattle.std.proofs.lemmas.Bool.{cases_lt, cases_eq}
use Rattle.seg_rule.specs.Chain.{Seg, Segs, put_seg, ChainOk, TailNote}

module _ (segs : Segs) (low last h t : ℕ) (c : ChainOk segs low last h t) where
  -- starts rise
  rise : (d j : ℕ) → j + d ≤ last → (segs j).start ≤ (segs (j + d)).start
  rise zero j l = subst (λ z. (segs j).start ≤ (segs z).start) (let g : j ≡ j + 0 = omega arith in g) (le_refl _)
  rise (suc d) j l = let a = rise d j (omega arith) in let b = c.follows (j + d) (omega arith) in
      subst (λ z. (segs j).start ≤ (segs z).start) (let g : suc (j + d) ≡ j + suc d = omega arith in g) (let g : (segs j).start ≤ (segs (suc (j + d))).start = omega arith in g)

  pub rises : (j k : ℕ) → j ≤ k → k ≤ last → (segs j).start ≤ (segs k).start
  rises j k a b = subst (λ z. (segs j).start ≤ (segs z).start) (let g : j + (k - j) ≡ k = omega arith in g) (rise (k - j) j (omega arith))

  -- the number of a segment is at most its start
  pub numbers_low : (n : ℕ) → n ≤ last → n ≤ (segs n).start
  numbers_low zero l = omega arith
  numbers_low (suc n) l = let a = numbers_low n (omega arith) in let b = c.follows n l in let two = c.some_slot n (omega arith) in omega arith

  -- where each segment has so many positions, each starts so many times its number from the first
  pub numbers_high : (least : ℕ) → ((n : ℕ) → n ≤ last → least ≤ (segs n).len) → (n : ℕ) → n ≤ last → n * least ≤ (segs n).start
  numbers_high least long zero l = omega arith
  numbers_high least long (suc n) l = let a = numbers_high least long n (omega arith) in let b = c.follows n l in let two = long n (omega arith) in omega arith

  -- The exchange of a noted tail that wins is in the segment that was noted, whatever was closed, opened and used again in between
  pub not_stale : (place at k : ℕ) → TailNote segs last t place at k → (segs last).place ≡ place → t ≡ at → k ≡ last
  not_stale place at k n there now = ⊎_elim (λ (l : k < last). absurd (⊎_elim
      (λ (e : suc k ≡ last). c.next_apart k l (n.there ∙ (sym there ∙ ap (λ z. (segs z).place) (sym e))))
      (λ (ne : suc k ≢ last). let a = n.after l in let b = c.follows (suc k) (omega arith) in let two = c.some_slot (suc k) l in let r = rises (suc (suc k)) last (omega arith) (le_refl _) in let e = c.ends in omega arith)
      (cases_eq (suc k) last))) (λ (l : last ≤ k). let o = n.opened in omega arith) (cases_lt k last)

  -- a place is prepared only while the last segment is full, and so nobody wins in it at a noted tail
  pub prepared_late : (place at k : ℕ) → TailNote segs last t place at k → (segs last).place ≢ place → (segs last).start + (segs last).len ≤ t → at < t
  prepared_late place at k n other full = ⊎_elim (λ (l : k < last). let a = n.after l in let r = rises (suc k) last l (le_refl _) in let two = c.some_slot last (le_refl _) in omega arith)
      (λ (l : last ≤ k). absurd (let o = n.opened in let e : k ≡ last = omega arith in other (ap (λ z. (segs z).place) (sym e) ∙ n.there))) (cases_lt k last)

  -- a position that was enqueued and not taken lies in the chain
  holds_it : (p fuel k : ℕ) → low ≤ k → k + fuel ≡ last → (segs k).start ≤ p → p < t → (j : ℕ) × (low ≤ j) × (j ≤ last) × ((segs j).start ≤ p) × ((j ≡ last) ⊎ ((suc j ≤ last) × (p < (segs (suc j)).start)))
  holds_it p zero k a b s l = (k, a, omega arith, s, inl (omega arith))
  holds_it p (suc fuel) k a b s l = ⊎_elim (λ (y : p < (segs (suc k)).start). (k, a, omega arith, s, inr (omega arith, y))) (λ (y : (segs (suc k)).start ≤ p). holds_it p fuel (suc k) (omega arith) (omega arith) y l) (cases_lt p (segs (suc k)).start)

  pub in_chain : (p : ℕ) → h ≤ p → p < t → (j : ℕ) × (low ≤ j) × (j ≤ last) × ((segs j).start ≤ p) × ((j ≡ last) ⊎ ((suc j ≤ last) × (p < (segs (suc j)).start)))
  in_chain p a b = let i = c.inside in let s = c.base in holds_it p (last - low) low (le_refl _) (omega arith) (omega arith) b

  -- tail reserve and head take
  pub more_put : ChainOk segs low last h (suc t)
  more_put = record { inside = c.inside; some_slot = c.some_slot; follows = c.follows; ends = let e = c.ends in omega arith; base = c.base; apart = c.apart; next_apart = c.next_apart }

  pub more_taken : ChainOk segs low last (suc h) t
  more_taken = record { inside = c.inside; some_slot = c.some_slot; follows = c.follows; ends = c.ends; base = let e = c.base in omega arith; apart = c.apart; next_apart = c.next_apart }

  -- first store
  pub first_moves : suc low ≤ last → (segs (suc low)).start ≤ h → ChainOk segs (suc low) last h t
  first_moves l b = record { inside = l; some_slot = c.some_slot; follows = c.follows; ends = c.ends; base = b; apart = λ j k a. c.apart j k (omega arith); next_apart = c.next_apart }

  here : (s : Seg) → put_seg segs (suc last) s (suc last) ≡ s
  here s = ap (λ b. cond b s (segs (suc last))) (eq-eqb (suc last) (suc last) refl)

  old : (s : Seg) (k : ℕ) → k ≤ last → put_seg segs (suc last) s k ≡ segs k
  old s k l = ap (λ b. cond b s (segs k)) (ne_eqb (suc last) k (λ e. omega arith))

  -- tail open
  pub opens : (s : Seg) → s.start ≡ t → 2 ≤ s.len → (segs last).start + (segs last).len ≤ t → ((k : ℕ) → low ≤ k → k ≤ last → (segs k).place ≢ s.place) → ChainOk (put_seg segs (suc last) s) low (suc last) h t
  opens s at two full free = record {
    inside = let i = c.inside in omega arith;
    some_slot = λ k l. ⊎_elim (λ (y : k ≤ last). subst (λ (z : Seg). 2 ≤ z.len) (sym (old s k y)) (c.some_slot k y)) (λ (y : last < k). subst (λ z. 2 ≤ (put_seg segs (suc last) s z).len) (let g : suc last ≡ k = omega arith in g) (subst (λ (z : Seg). 2 ≤ z.len) (sym (here s)) two)) (le_or k last);
    follows = λ k l. ⊎_elim (λ (y : suc k ≤ last). subst (λ (z : Seg × Seg). z.0.start + z.0.len ≤ z.1.start) (λ i. (sym (old s k (omega arith)) i, sym (old s (suc k) y) i)) (c.follows k y))
        (λ (y : last < suc k). let e : last ≡ k = omega arith in subst (λ z. (put_seg segs (suc last) s z).start + (put_seg segs (suc last) s z).len ≤ (put_seg segs (suc last) s (suc z)).start) e
        (subst (λ (z : Seg × Seg). z.0.start + z.0.len ≤ z.1.start) (λ i. (sym (old s last (le_refl _)) i, sym (here s) i)) (subst (λ z. (segs last).start + (segs last).len ≤ z) (sym at) full))) (le_or (suc k) last);
    ends = subst (λ (z : Seg). z.start ≤ t) (sym (here s)) (let g : s.start ≤ t = omega arith in g);
    base = subst (λ (z : Seg). z.start ≤ h) (sym (old s low c.inside)) c.base;
    apart = λ j k a b l. ⊎_elim (λ (y : k ≤ last). subst (λ (z : Seg × Seg). z.0.place ≢ z.1.place) (λ i. (sym (old s j (omega arith)) i, sym (old s k y) i)) (c.apart j k a b y))
        (λ (y : last < k). let e : suc last ≡ k = omega arith in subst (λ z. (put_seg segs (suc last) s j).place ≢ (put_seg segs (suc last) s z).place) e
        (subst (λ (z : Seg × Seg). z.0.place ≢ z.1.place) (λ i. (sym (old s j (omega arith)) i, sym (here s) i)) (free j a (omega arith)))) (le_or k last);
    next_apart = λ k l. ⊎_elim (λ (y : suc k ≤ last). subst (λ (z : Seg × Seg). z.0.place ≢ z.1.place) (λ i. (sym (old s k (omega arith)) i, sym (old s (suc k) y) i)) (c.next_apart k y))
        (λ (y : last < suc k). let e : last ≡ k = omega arith in subst (λ z. (put_seg segs (suc last) s z).place ≢ (put_seg segs (suc last) s (suc z)).place) e
        (subst (λ (z : Seg × Seg). z.0.place ≢ z.1.place) (λ i. (sym (old s last (le_refl _)) i, sym (here s) i)) (free last c.inside (le_refl _)))) (le_or (suc k) last);
  }
    where
      le_or : (a b : ℕ) → (a ≤ b) ⊎ (b < a)
      le_or a b = ⊎_elim (λ (l : b < a). inr l) (λ (l : a ≤ b). inl l) (cases_lt b a)
