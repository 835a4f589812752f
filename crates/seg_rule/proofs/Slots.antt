-- What a slot of a segment tells, and what stays of it.
use Rattle.std.proofs.Common.{◌≡◌, ℕ, ◌+◌, ◌*◌, ◌%◌, ◌<◌, ◌≤◌, ◌⊎◌, inl, inr, ⊎_elim, List, [], ◌∷◌, sym, ap, ◌∙◌, subst, arith, le_trans}
use Rattle.std.proofs.lemmas.Bool.{cases_lt}
use native.Mathlib.Nat.{add-mod_right}
use mathlib.Core.Option.{some}
use mathlib.Core.Path.{Path}
use lib.ListN.{get_elem?}
use Rattle.ho_base.specs.Marks.{Mark}
use Rattle.atomic_table.proofs.Lists.{one_turn}
use Rattle.seg_rule.specs.Slots.{Phase, free, writing, stored, full, reading, left, Cell, face, up, InPhase, SlotOk}

abbrev pub Longer : {A : Type 0} → List A → List A → Type 0
Longer {A} xs ys = (p : ℕ) (x : A) → get_elem? xs p ≡ some x → get_elem? ys p ≡ some x

pub up_bit : (ph : Phase) → up ph ≤ 1
up_bit free = omega arith
up_bit (writing j) = omega arith
up_bit (stored j) = omega arith
up_bit full = omega arith
up_bit (reading j) = omega arith
up_bit left = omega arith

phase_stays : (xs xs' : List Mark) (h h' e e' y p : ℕ) → Longer xs xs' → h ≤ h' → e ≤ e' → (e ≤ p → e' ≤ p) → (p < e → h ≤ p → h' ≤ p) → (ph : Phase) → InPhase xs h e y p ph → InPhase xs' h' e' y p ph
phase_stays xs xs' h h' e e' y p more a b ee hh free k = ee k
phase_stays xs xs' h h' e e' y p more a b ee hh (writing j) k = (hh k.1 k.0, le_trans k.1 b)
phase_stays xs xs' h h' e e' y p more a b ee hh (stored j) k = (hh k.1 k.0, le_trans k.1 b, more p (y ∷ []) k.2)
phase_stays xs xs' h h' e e' y p more a b ee hh full k = (hh k.1 k.0, le_trans k.1 b, more p (y ∷ []) k.2)
phase_stays xs xs' h h' e e' y p more a b ee hh (reading j) k = (le_trans k.0 a, le_trans k.1 b, more p (y ∷ []) k.2)
phase_stays xs xs' h h' e e' y p more a b ee hh left k = (le_trans k.0 a, le_trans k.1 b, more p (y ∷ []) k.2)

-- a slot that a step does not touch: only positions of this slot and of this segment count, so another segment's head take or tail reserve asks for nothing
pub slot_stays : (n : ℕ) (xs xs' : List Mark) (h h' s e e' x y i : ℕ) (c : Cell) → Longer xs xs' → h ≤ h' → e ≤ e' → ((q : ℕ) → q % n ≡ i → e ≤ q → e' ≤ q) → ((q : ℕ) → q % n ≡ i → s ≤ q → q < e → h ≤ q → h' ≤ q)
    → SlotOk n xs h s e x y i c → SlotOk n xs' h' s e' x y i c
slot_stays n xs xs' h h' s e e' x y i c more a b ee hh k = record {
  lies = k.lies;
  begins = k.begins;
  freed = ⊎_elim (λ l. inl l) (λ (l : c.0 < h + n). inr (let g : c.0 < h' + n = omega arith in g)) k.freed;
  waits = ee (c.0 + n) (add-mod_right c.0 n ∙ k.lies) k.waits;
  shows = k.shows;
  phase = phase_stays xs xs' h h' e e' y c.0 more a b (ee c.0 k.lies) (hh c.0 k.lies k.begins) c.1 k.phase;
}

-- the slot of the tail t of the open segment holds the free number of t exactly where it is free for it; else the segment has had a whole turn
pub tail_slot : (n : ℕ) (xs : List Mark) (h s t x y : ℕ) (c : Cell) → SlotOk n xs h s t x y (t % n) c → 0 < n → s ≤ t → h ≤ t → (Path Cell c (t, free) × (x ≡ 2 * t)) ⊎ ((s + n ≤ t) × (c.0 + n ≡ t))
tail_slot n xs h s t x y c k pos st ht = go c.1 k.phase k.shows
  where
    small : c.0 < t + n
    small = ⊎_elim (λ (l : c.0 < s + n). omega arith) (λ (l : c.0 < h + n). omega arith) k.freed

    which : (c.0 ≡ t) ⊎ (c.0 + n ≡ t)
    which = let w : t ≤ c.0 + n = k.waits in ⊎_elim (λ (l : c.0 < t). inr (sym (one_turn t (c.0 + n) n w (omega arith) (sym (add-mod_right c.0 n ∙ k.lies))))) (λ (l : t ≤ c.0). inl (sym (one_turn t c.0 n l small (sym k.lies)))) (cases_lt c.0 t)

    back : c.0 + n ≡ t → s + n ≤ t
    back e = let b = k.begins in omega arith

    go : (ph : Phase) → InPhase xs h t y c.0 ph → x ≡ face (c.0, ph) → (Path Cell (c.0, ph) (t, free) × (x ≡ 2 * t)) ⊎ ((s + n ≤ t) × (c.0 + n ≡ t))
    go free q e = ⊎_elim (λ (z : c.0 ≡ t). inl ((λ j. (z j, free)), (let g : x ≡ 2 * t = omega arith in g))) (λ (z : c.0 + n ≡ t). inr (back z, z)) which
    go (stored j) q e = let l = q.1 in ⊎_elim (λ (z : c.0 ≡ t). absurd (omega arith)) (λ (z : c.0 + n ≡ t). inr (back z, z)) which
    go (writing j) q e = let l = q.1 in ⊎_elim (λ (z : c.0 ≡ t). absurd (omega arith)) (λ (z : c.0 + n ≡ t). inr (back z, z)) which
    go full q e = let l = q.1 in ⊎_elim (λ (z : c.0 ≡ t). absurd (omega arith)) (λ (z : c.0 + n ≡ t). inr (back z, z)) which
    go (reading j) q e = let l = q.1 in ⊎_elim (λ (z : c.0 ≡ t). absurd (omega arith)) (λ (z : c.0 + n ≡ t). inr (back z, z)) which
    go left q e = let l = q.1 in ⊎_elim (λ (z : c.0 ≡ t). absurd (omega arith)) (λ (z : c.0 + n ≡ t). inr (back z, z)) which

-- a published number stands only in its own slot and tells the item, in any segment and at any time
pub published_is : (n : ℕ) (xs : List Mark) (h s e x y i p : ℕ) (c : Cell) → SlotOk n xs h s e x y i c → x ≡ 2 * p + 1 → (p % n ≡ i) × (s ≤ p) × (p < e) × (get_elem? xs p ≡ some (y ∷ []))
published_is n xs h s e x y i p c k is = go c.1 k.phase k.shows
  where
    told : c.0 ≡ p → c.0 < e → get_elem? xs c.0 ≡ some (y ∷ []) → (p % n ≡ i) × (s ≤ p) × (p < e) × (get_elem? xs p ≡ some (y ∷ []))
    told z l g = (ap (λ q. q % n) (sym z) ∙ k.lies, subst (λ q. s ≤ q) z k.begins, subst (λ q. q < e) z l, subst (λ q. get_elem? xs q ≡ some (y ∷ [])) z g)

    go : (ph : Phase) → InPhase xs h e y c.0 ph → x ≡ face (c.0, ph) → (p % n ≡ i) × (s ≤ p) × (p < e) × (get_elem? xs p ≡ some (y ∷ []))
    go free q f = absurd (omega arith)
    go (writing j) q f = absurd (omega arith)
    go (stored j) q f = absurd (omega arith)
    go full q f = told (omega arith) q.1 q.2
    go (reading j) q f = told (omega arith) q.1 q.2
    go left q f = told (omega arith) q.1 q.2

-- a slot as tail open finds it
pub opened : (n : ℕ) (xs : List Mark) (h s y i p : ℕ) → s ≤ p → p < s + n → p % n ≡ i → SlotOk n xs h s s (2 * p) y i (p, free)
opened n xs h s y i p a b l = record { lies = l; begins = a; freed = inl b; waits = omega arith; shows = omega arith; phase = a }

-- the position of the slot of one that is not taken
pub slot_position : (n : ℕ) (xs : List Mark) (h s e x y p : ℕ) (c : Cell) → SlotOk n xs h s e x y (p % n) c → h ≤ p → s ≤ p → p < e → c.0 ≡ p
slot_position n xs h s e x y p c k lo st hi = ⊎_elim
    (λ (l : c.0 < p). absurd (let w = k.waits in let z = one_turn c.0 p n (omega arith) (omega arith) k.lies in omega arith))
    (λ (l : p ≤ c.0). sym (one_turn p c.0 n l (⊎_elim (λ (r : c.0 < s + n). omega arith) (λ (r : c.0 < h + n). omega arith) k.freed) (sym k.lies)))
    (cases_lt c.0 p)

-- a slot at a position below the end shows its free number, or its published number beside the item
pub slot_tells : (n : ℕ) (xs : List Mark) (h s e x y i p : ℕ) (c : Cell) → SlotOk n xs h s e x y i c → c.0 ≡ p → p < e → (x ≡ 2 * p) ⊎ ((x ≡ 2 * p + 1) × (get_elem? xs p ≡ some (y ∷ [])))
slot_tells n xs h s e x y i p c k at under = go c.1 k.phase k.shows
  where
    there : get_elem? xs c.0 ≡ some (y ∷ []) → get_elem? xs p ≡ some (y ∷ [])
    there g = subst (λ z. get_elem? xs z ≡ some (y ∷ [])) at g

    go : (ph : Phase) → InPhase xs h e y c.0 ph → x ≡ face (c.0, ph) → (x ≡ 2 * p) ⊎ ((x ≡ 2 * p + 1) × (get_elem? xs p ≡ some (y ∷ [])))
    go free q f = inl (omega arith)
    go (writing j) q f = inl (omega arith)
    go (stored j) q f = inl (omega arith)
    go full q f = inr (omega arith, there q.2)
    go (reading j) q f = inr (omega arith, there q.2)
    go left q f = inr (omega arith, there q.2)
