-- What the refusals rest on: another pass is in the way, and so this one does not hold all numbers.
use Rattle.std.proofs.Common.{◌≡◌, ℕ, zero, suc, ◌+◌, ◌*◌, ◌<◌, ◌≤◌, ◌≢◌, ◌⊎◌, inl, inr, ⊎_elim, false, true≢false, le_refl, List, sym, refl, ap, ◌∙◌, subst, arith, cond, eq-eqb, ne_eqb}
use mathlib.Core.Option.{some}
use lib.ListN.{get_elem?}
use Rattle.std.specs.Prelude.{Some}
use Rattle.passes.specs.Numbers.{HasNumber}
use Rattle.seg_rule.specs.declared.form.Form.{Form}
use Rattle.seg_rule.specs.declared.word.QueueWord.TheVariants.{Head, Turn, Tail, Number, Item}
use Rattle.seg_rule.specs.declared.view.View.{View}
use Rattle.seg_rule.specs.declared.view.OpenTail.{OpenTail}
use Rattle.seg_rule.specs.declared.view.Leave.{Leave}
use Rattle.seg_rule.specs.declared.view.Leave.TheVariants.{Unread, Granted, Measured, Refused, Released}
use Rattle.seg_rule.specs.declared.view.Hand.{Hand}
use Rattle.seg_rule.specs.declared.view.Hand.TheVariants.{Nothing, Reserved, Stored, Taking}
use Rattle.seg_rule.specs.declared.view.Stage.{Stage}
use Rattle.seg_rule.specs.declared.view.Stage.TheVariants.{Away, Plain, Closed, Found, Preparing, Opened, Linked, Observing}
use Rattle.seg_rule.specs.Words.{Memory}
use Rattle.seg_rule.specs.Steps.{keeps_closed}
use Rattle.seg_rule.specs.Chain.{end_of}
use Rattle.seg_rule.specs.Slots.{Phase, free, writing, stored, full, reading, left, Cell, face, holder, InPhase, SlotOk}
use Rattle.seg_rule.specs.Rule.{Ghosts, IsWhole, Shows, HeadNote, TailSeen, LeaveOk, LeaveHas, HandOk, InHand, HasTurn, StageOk, ViewOk, Kept, tail_word}
use Rattle.seg_rule.proofs.Entries.{whole_alone}
use Rattle.std.proofs.lemmas.Bool.{cases_eq}
use Rattle.seg_rule.proofs.Chains.{rises}
use Rattle.seg_rule.proofs.Tails.{tail_even}

-- the number c is of another caller, and there is one
pub record IsTheirs (v : View) (c : ℕ) : Type 0 where
  pub not_held : ¬ HasNumber v.held c
  pub not_whole : ¬ IsWhole v

turn_of : (g : Ghosts) (j : ℕ) (active : Type 0) (c : ℕ) (s : Stage) → StageOk g j active c s → g.turn ≡ suc j → HasTurn g j active c
turn_of g j active c Away x t = absurd (x t)
turn_of g j active c Plain x t = x.0
turn_of g j active c (Closed q p u) x t = x.0
turn_of g j active c (Found q p u) x t = x.0
turn_of g j active c (Preparing d q s n w) x t = x.0
turn_of g j active c (Opened d q p) x t = x.0
turn_of g j active c (Linked q p) x t = x.0
turn_of g j active c (Observing q p b n r) x t = x.0

-- whoever holds a slot that shows a free number has enqueued its position
writer : (g : Ghosts) (q i p j : ℕ) (act : Type 0) (c : ℕ) (w : Hand) → HandOk g j act c w → InHand w q i → face (g.cells q i) ≡ 2 * p + 0 → (g.cells q i).0 ≡ p → act × (get_elem? g.putters p ≡ some c)
writer g q i p j act c Nothing x y even at_p = absurd y
writer g q i p j act c (Reserved p' q' i' z) x y even at_p =
    let e : p' ≡ p = sym (ap (λ (z : Cell). z.0) (subst (λ (r : ℕ × ℕ). g.cells r.0 r.1 ≡ (p', writing j)) (λ d. (y.0 d, y.1 d)) x.2)) ∙ at_p in (x.0, subst (λ (r : ℕ). get_elem? g.putters r ≡ some c) e x.4)
writer g q i p j act c (Stored p' q' i' z) x y even at_p =
    let e : p' ≡ p = sym (ap (λ (z : Cell). z.0) (subst (λ (r : ℕ × ℕ). g.cells r.0 r.1 ≡ (p', stored j)) (λ d. (y.0 d, y.1 d)) x.2)) ∙ at_p in (x.0, subst (λ (r : ℕ). get_elem? g.putters r ≡ some c) e x.4)
writer g q i p j act c (Taking p' q' i' l) x y even at_p = absurd (odd l x.3 y.2)
  where
    shown : g.cells q' i' ≡ (p', reading j) → ⊥
    shown cell = let r : face (g.cells q i) ≡ 2 * p' + 1 = ap (λ (z : ℕ × ℕ). face (g.cells z.0 z.1)) (λ d. (sym y.0 d, sym y.1 d)) ∙ ap face cell in omega arith

    odd : (l : Leave) → LeaveOk g j p' q' i' l → LeaveHas l → ⊥
    odd Unread a b = shown a
    odd Granted a b = shown a.0
    odd (Measured n) a b = shown a.0
    odd Refused a b = b
    odd Released a b = b

module _ (f : Form) (m : Memory) (views : List View) (id : ℕ) (v : View) (k : Kept f m views) (at : get_elem? views id ≡ some v) where
  abbrev g : Ghosts
  g = k.g

  abbrev ok : ViewOk f g id v
  ok = k.seats.each id v at

  -- the number of another active seat
  theirs : (j : ℕ) (u : View) → get_elem? views j ≡ some u → j ≢ id → HasNumber u.held u.caller → IsTheirs v u.caller
  theirs j u there other active = let x = k.seats.each j u there in record {
    not_held = λ h. other (sym (x.holds.owns u.caller active).0 ∙ (ok.holds.owns u.caller h).0);
    not_whole = λ w. other (sym (whole_alone f g id j v u ok x w active));
  }

  -- a turn word that is not 0 names the caller that has the turn
  pub turn_lost : v.stage ≡ Away → m Turn ≢ 0 → (c : ℕ) × (m Turn ≡ suc c) × (c < f.callers) × IsTheirs v c
  turn_lost away lost = go g.turn refl
    where
      go : (z : ℕ) → g.turn ≡ z → (c : ℕ) × (m Turn ≡ suc c) × (c < f.callers) × IsTheirs v c
      go zero e = absurd (lost (k.words.turns.word_is ∙ (k.words.turns.idle e).0))
      go (suc j) e = let u = k.seats.turned j e in let x = k.seats.each j u.0 u.1 in let t = turn_of g j (HasNumber u.0.held u.0.caller) u.0.caller u.0.stage x.stage e in
          let st : g.turn ≢ suc id = subst (StageOk g id (HasNumber v.held v.caller) v.caller) away ok.stage in
          (u.0.caller, k.words.turns.word_is ∙ t.1, (x.holds.owns u.0.caller t.2).1, theirs j u.0 u.1 (λ s. st (e ∙ ap suc s)) t.2)

  -- a head that is read above the one noted has moved, and so has a tail
  pub head_moved : (h : ℕ) → HeadNote g (IsWhole v) (Some h) → m Head ≢ h → (h < m Head) × (¬ IsWhole v)
  head_moved h note moved = let e = k.words.counts.head_is in ((let l = note.0 in let ne : m Head ≢ h = moved in omega arith), λ w. moved (e ∙ sym (note.1 w)))

  pub tail_moved : (o : OpenTail) (p t : ℕ) → TailSeen g (IsWhole v) o → p < f.places → m (Tail p) ≡ 2 * t → t ≢ o.position → (o.position < t) × (¬ IsWhole v)
  tail_moved o p t s near now moved = let l = (tail_even g.segs g.last g.put g.shut (g.home p) t (sym (k.words.tails p near) ∙ now) k.words.turns.bit).1 in ((let b = s.there.below in omega arith), λ w. moved (sym l ∙ sym (s.exact w)))

  -- the place of an open tail that was noted is one of the table
  pub place_near : (o : OpenTail) → TailSeen g (IsWhole v) o → o.place < f.places
  place_near o s = subst (λ (z : ℕ). z < f.places) s.there.there (k.words.ranges.placed s.segment s.there.opened)

  -- a closed tail in the place of the one noted is at it or above
  pub tail_closed : (o : OpenTail) (e : ℕ) → TailSeen g (IsWhole v) o → m (Tail o.place) ≡ 2 * e + 1 → o.position ≤ e
  tail_closed o e s now = go (g.home o.place) refl
    where
      n : ℕ
      n = s.segment

      near : o.place < f.places
      near = subst (λ (z : ℕ). z < f.places) s.there.there (k.words.ranges.placed s.segment s.there.opened)

      shown : n < g.home o.place
      shown = subst (λ (z : ℕ). n < g.home z) s.there.there (k.words.homes.latest n s.there.opened)

      go : (z : ℕ) → g.home o.place ≡ z → o.position ≤ e
      go zero home = absurd (let l = shown in omega arith)
      go (suc a) home =
          let word : m (Tail o.place) ≡ tail_word g.segs g.last g.put g.shut (suc a) = k.words.tails o.place near ∙ ap (tail_word g.segs g.last g.put g.shut) home in
          let up : n ≤ a = (let l = shown in omega arith) in let top = (k.words.homes.there o.place a home).0 in ⊎_elim
          (λ (y : a ≡ g.last). let w = word ∙ ap (λ b. cond b (2 * g.put + g.shut) (2 * (g.segs (suc a)).start + 1)) (eq-eqb a g.last y) in let b = s.there.below in let bit = k.words.turns.bit in omega arith)
          (λ (ne : a ≢ g.last). let w = word ∙ ap (λ b. cond b (2 * g.put + g.shut) (2 * (g.segs (suc a)).start + 1)) (ne_eqb a g.last ne) in
          let l = s.there.after (omega arith) in let r = rises g.segs g.low g.last g.taken g.put k.words.chain (suc n) (suc a) (omega arith) (omega arith) in omega arith)
          (cases_eq a g.last)

  -- the tail of the last place is closed by another caller, who has the turn, unless this pass has it closed
  closed_by : (s : Stage) → v.stage ≡ s → StageOk g id (HasNumber v.held v.caller) v.caller s → (IsWhole v ⊎ (g.turn ≡ suc id) → g.shut ≡ 1) → keeps_closed s ≡ false → (s ≡ Away) × (¬ IsWhole v)
  closed_by Away is st shut e = (refl, λ w. none g.turn refl (shut (inl w)) w)
    where
      none : (z : ℕ) → g.turn ≡ z → g.shut ≡ 1 → IsWhole v → ⊥
      none zero z closed w = let i : g.shut ≡ 0 = (k.words.turns.idle z).1 in omega arith
      none (suc j) z closed w = let u = k.seats.turned j z in let x = k.seats.each j u.0 u.1 in let t = turn_of g j (HasNumber u.0.held u.0.caller) u.0.caller u.0.stage x.stage z in
          (theirs j u.0 u.1 (λ same. st (z ∙ ap suc same)) t.2).not_whole w
  closed_by Plain is st shut e = absurd (let z : 0 ≡ 1 = sym st.1 ∙ shut (inr st.0.0) in omega arith)
  closed_by (Closed q p u) is st shut e = absurd (true≢false e)
  closed_by (Found q p u) is st shut e = absurd (true≢false e)
  closed_by (Preparing d q s n w) is st shut e = absurd (true≢false e)
  closed_by (Opened d q p) is st shut e = absurd (let z : 0 ≡ 1 = sym st.1 ∙ shut (inr st.0.0) in omega arith)
  closed_by (Linked q p) is st shut e = absurd (let z : 0 ≡ 1 = sym st.1 ∙ shut (inr st.0.0) in omega arith)
  closed_by (Observing q p b n r) is st shut e = absurd (true≢false e)

  pub tail_shut : (o : OpenTail) (u : ℕ) → TailSeen g (IsWhole v) o → (IsWhole v ⊎ (g.turn ≡ suc id) → (g.segs g.last).place ≡ o.place) → m (Tail o.place) ≡ 2 * u + 1 → keeps_closed v.stage ≡ false → (v.stage ≡ Away) × (¬ IsWhole v)
  tail_shut o u s newest now = closed_by v.stage refl ok.stage (λ w.
      let home : g.home o.place ≡ suc g.last = ap g.home (sym (newest w)) ∙ k.words.homes.chain g.last k.words.chain.inside (le_refl _) in
      let word : m (Tail o.place) ≡ 2 * g.put + g.shut = k.words.tails o.place (place_near o s) ∙ (ap (tail_word g.segs g.last g.put g.shut) home ∙ ap (λ b. cond b (2 * g.put + g.shut) (2 * (g.segs (suc g.last)).start + 1)) (eq-eqb g.last g.last refl)) in
      let bit = k.words.turns.bit in omega arith)

  -- the free number of a position that was enqueued: it is in flight, by a caller that is not held
  pub in_flight : (q i n p : ℕ) → v.hand ≡ Nothing → Shows g q i n → m (Number q i) ≡ 2 * p → p < end_of g.segs g.last g.put n → (c : ℕ) × (get_elem? g.putters p ≡ some c) × (g.taken ≤ p) × IsTheirs v c
  in_flight q i n p idle s is under = go (g.cells q i).1 slot.phase slot.shows refl
    where
      slot : SlotOk (g.segs n).len g.values g.taken (g.segs n).start (end_of g.segs g.last g.put n) (m (Number q i)) (m (Item q i)) i (g.cells q i)
      slot = k.words.slots q n i s.0 s.1 s.2

      held_by : (j : ℕ) → holder (g.cells q i).1 ≡ suc j → (g.cells q i).0 ≡ p → ((g.cells q i ≡ (p, writing j)) ⊎ (g.cells q i ≡ (p, stored j))) → g.taken ≤ p → (c : ℕ) × (get_elem? g.putters p ≡ some c) × (g.taken ≤ p) × IsTheirs v c
      held_by j h at_p cell lo = let u = k.seats.seated q i j h in let x = k.seats.each j u.0 u.1 in let tie = x.ties q i h in
          let other : j ≢ id = (λ e. nobody (subst (λ (z : Hand). InHand z q i) idle (ok.ties q i (h ∙ ap suc e)))) in
          let c = writer g q i p j (HasNumber u.0.held u.0.caller) u.0.caller u.0.hand x.hand tie (⊎_elim (λ (r : g.cells q i ≡ (p, writing j)). ap face r) (λ (r : g.cells q i ≡ (p, stored j)). ap face r) cell) at_p in
          (u.0.caller, c.1, lo, theirs j u.0 u.1 other c.0)
        where
          nobody : InHand Nothing q i → ⊥
          nobody x = x

      go : (ph : Phase) → InPhase g.values g.taken (end_of g.segs g.last g.put n) (m (Item q i)) (g.cells q i).0 ph → m (Number q i) ≡ face ((g.cells q i).0, ph) → (g.cells q i).1 ≡ ph → (c : ℕ) × (get_elem? g.putters p ≡ some c) × (g.taken ≤ p) × IsTheirs v c
      go free a e z = absurd (omega arith)
      go (writing j) a e z = let at_p : (g.cells q i).0 ≡ p = omega arith in let l = a.0 in held_by j (ap holder z) at_p (inl (λ d. (at_p d, z d))) (omega arith)
      go (stored j) a e z = let at_p : (g.cells q i).0 ≡ p = omega arith in let l = a.0 in held_by j (ap holder z) at_p (inr (λ d. (at_p d, z d))) (omega arith)
      go full a e z = absurd (omega arith)
      go (reading j) a e z = absurd (omega arith)
      go left a e z = absurd (omega arith)
