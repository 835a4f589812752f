-- Tail open: the place that was prepared becomes the home of a new last segment.
use Rattle.std.proofs.Common.{◌≡◌, ℕ, zero, suc, ◌+◌, ◌*◌, ◌/◌, ◌%◌, ◌<◌, ◌≤◌, ◌≢◌, ◌⊎◌, inl, inr, ⊎_elim, eqb, cond, true, false, true≢false, mod-lt, List, set, sym, refl, ap, ◌∙◌, subst, arith, le_refl, eq-eqb, ne_eqb}
use Rattle.std.proofs.lemmas.Bool.{cases_lt, cases_eq, cases_Bool}
use mathlib.Core.Option.{some}
use lib.ListN.{get_elem?}
use Rattle.std.specs.Prelude.{Option, Some, None}
use Rattle.passes.specs.Numbers.{HasNumber}
use Rattle.seg_rule.specs.declared.word.QueueWord.TheVariants.{Tail, Start, Length, Done, Next, Segment, Number, Item}
use Rattle.seg_rule.specs.declared.view.View.{View}
use Rattle.seg_rule.specs.declared.view.OpenTail.{OpenTail}
use Rattle.seg_rule.specs.declared.view.Window.{Window}
use Rattle.seg_rule.specs.declared.view.Hand.{Hand}
use Rattle.seg_rule.specs.declared.view.Hand.TheVariants.{Nothing, Reserved, Stored, Taking}
use Rattle.seg_rule.specs.declared.view.Stage.TheVariants.{Preparing}
use Rattle.seg_rule.specs.Words.{Memory, update}
use Rattle.seg_rule.specs.Chain.{Seg, Segs, put_seg, end_of}
use Rattle.seg_rule.specs.Slots.{free, Cell, holder}
use Rattle.seg_rule.specs.Places.{Cells, SlotsOk, put_in}
use Rattle.seg_rule.specs.declared.form.Form.{Form}
use Rattle.seg_rule.specs.Rule.{Ghosts, IsWhole, TailSeen, HandOk, InHand, StageOk, WindowFact, ViewOk, tail_word, watched, watches, in_range, flag, passed, TailsOk, FollowsLength, Words, Kept}
use Rattle.seg_rule.specs.Rely.{IsLate, StaysIn, Grows, Rely}
use Rattle.seg_layout.specs.Lengths.{IsSegmentLength}
use Rattle.seg_rule.specs.Steps.{fit_tail, opened_by}
use Rattle.seg_rule.proofs.Chains.{opens}
use Rattle.seg_rule.proofs.Places.{open_slots}
use Rattle.seg_rule.proofs.Stays.{notes_with, hand_stays, window_fact_stays}
use Rattle.seg_rule.proofs.Frames.{kept_after}
use Rattle.seg_rule.proofs.Sums.{total_zero}
use Rattle.seg_rule.proofs.Preps.{no_prep}
use Rattle.seg_rule.proofs.HeadTakes.{passed_low}
use Rattle.seg_rule.proofs.Entries.{whole_alone}
use Rattle.seg_rule.proofs.Looks.{or_zero, is_some}
use Rattle.atomic_table.proofs.Lists.{one_turn}

-- a slot in hand is one of a place that shows a segment
shown_in_hand : (g : Ghosts) (j : ℕ) (active : Type 0) (c : ℕ) (w : Hand) (q i : ℕ) → HandOk g j active c w → InHand w q i → g.prep ≢ suc q
shown_in_hand g j active c Nothing q i x y = absurd y
shown_in_hand g j active c (Reserved p q' i' z) q i x y = λ e. x.1.1.1 (e ∙ ap suc (sym y.0))
shown_in_hand g j active c (Stored p q' i' z) q i x y = λ e. x.1.1.1 (e ∙ ap suc (sym y.0))
shown_in_hand g j active c (Taking p q' i' l) q i x y = λ e. x.1.1.1 (e ∙ ap suc (sym y.0))

module _ (f : Form) (m : Memory) (views : List View) (id : ℕ) (v : View) (k : Kept f m views) (at : get_elem? views id ≡ some v) (d q t n : ℕ) (ready : v.stage ≡ Preparing d q t n (4 + n)) where
  abbrev g : Ghosts
  g = k.g

  abbrev ok : ViewOk f g id v
  ok = k.seats.each id v at

  abbrev active : Type 0
  active = HasNumber v.held v.caller

  st : StageOk g id active v.caller (Preparing d q t n (4 + n))
  st = subst (StageOk g id active v.caller) ready ok.stage

  -- the opening position of a slot, as its number tells it
  abbrev first_in : ℕ → ℕ
  first_in i = m (Number q i) / 2

  abbrev segs' : Segs
  segs' = put_seg g.segs (suc g.last) g.plan

  abbrev home' : ℕ → ℕ
  home' = put_in g.home q (suc (suc g.last))

  abbrev cells' : Cells
  cells' a b = cond (eqb q a) (first_in b, free) (g.cells a b)

  abbrev g' : Ghosts
  g' = record g { segs = segs'; last = suc g.last; home = home'; cells = cells'; shut = 0; prep = 0 }

  prep_q : g.prep ≡ suc q
  prep_q = st.2

  len_n : g.plan.len ≡ n
  len_n = ap (λ (s : Seg). s.len) st.5

  plan_put : g.plan.start ≡ g.put
  plan_put = (k.words.preps.inside q prep_q).2

  -- the place is none of the chain
  not_chain : (a : ℕ) → g.low ≤ a → a ≤ g.last → (g.segs a).place ≢ q
  not_chain a l h e = let x = (k.words.preps.apart q a prep_q (subst (λ (z : ℕ). g.home z ≡ suc a) e (k.words.homes.chain a l h))).0 in omega arith

  last_place : (g.segs g.last).place ≢ q
  last_place = not_chain g.last k.words.chain.inside (le_refl _)

  new_seg : segs' (suc g.last) ≡ g.plan
  new_seg = ap (λ b. cond b g.plan (g.segs (suc g.last))) (eq-eqb (suc g.last) (suc g.last) refl)

  old_seg : (a : ℕ) → a ≤ g.last → segs' a ≡ g.segs a
  old_seg a l = ap (λ b. cond b g.plan (g.segs a)) (ne_eqb (suc g.last) a (λ e. omega arith))

  home_here : home' q ≡ suc (suc g.last)
  home_here = ap (λ b. cond b (suc (suc g.last)) (g.home q)) (eq-eqb q q refl)

  home_else : (a : ℕ) → q ≢ a → home' a ≡ g.home a
  home_else a ne = ap (λ b. cond b (suc (suc g.last)) (g.home a)) (ne_eqb q a ne)

  cell_else : (a b : ℕ) → q ≢ a → cells' a b ≡ g.cells a b
  cell_else a b ne = ap (λ z. cond z (first_in b, free) (g.cells a b)) (ne_eqb q a ne)

  -- a place that is not in preparation is another one
  apart : (a : ℕ) → g.prep ≢ suc a → q ≢ a
  apart a ne e = ne (prep_q ∙ ap suc e)

  linked_now : g.linked ≡ g.now
  linked_now = let o = k.words.links.order in let a = o.1 in let b = o.2 in let d = st.3 in omega arith

  grows : Grows g g'
  grows = record {
    values = λ p x s. s;
    putters = λ p x s. s;
    put_up = le_refl _;
    taken_up = le_refl _;
    segs = old_seg;
    last_up = let z : g.last ≤ suc g.last = omega arith in z;
    linked_up = le_refl _;
    opens = λ l. subst (λ (s : Seg). g.put ≤ s.start) (sym new_seg) (let z : g.put ≤ g.plan.start = (let y = plan_put in omega arith) in z);
    bar_up = λ a. le_refl _;
    free_stays = λ a b s. ⊎_elim (λ (e : q ≡ a). inr (inr (subst (IsLate g) e (last_place, k.words.preps.full q prep_q)))) (λ (ne : q ≢ a). inr (inl (cell_else a b ne ∙ s))) (cases_eq q a);
    full_stays = λ a b o l h s r z. inr (l, cell_else a b (λ e. not_chain o l h (s ∙ sym e)) ∙ z);
    kept = λ a b o s p l r. subst (StaysIn (g.cells a b)) (sym (cell_else a b (apart a p))) (refl, le_refl _);
  }

  place_stays : (a o : ℕ) → g.home a ≡ suc o → g.prep ≢ suc a → (home' a ≡ suc o) × (0 ≢ suc a)
  place_stays a o s p = (home_else a (apart a p) ∙ s, λ e. omega arith)

  held_stays : (j : ℕ) (u : View) → ViewOk f g j u → (a b : ℕ) → holder (g.cells a b).1 ≡ suc j → cells' a b ≡ g.cells a b
  held_stays j u x a b e = cell_else a b (apart a (shown_in_hand g j (HasNumber u.held u.caller) u.caller u.hand a b x.hand (x.ties a b e)))

  given_by : (j a b : ℕ) → holder (cells' a b).1 ≡ suc j → holder (g.cells a b).1 ≡ suc j
  given_by j a b e = ⊎_elim
      (λ (s : q ≡ a). absurd (let z : 0 ≡ suc j = sym (ap (λ y. holder (cond y (first_in b, free) (g.cells a b)).1) (eq-eqb q a s)) ∙ e in omega arith))
      (λ (ne : q ≢ a). ap (λ (z : Cell). holder z.1) (sym (cell_else a b ne)) ∙ e)
      (cases_eq q a)

  others : (j : ℕ) (u : View) → j ≢ id → ViewOk f g j u → Rely f j u g g'
  others j u other x = record {
    grows = grows;
    holds = λ h. h;
    still = λ a. absurd (other (whole_alone f g j id u v x ok a st.0.2));
    hand_place = λ a o p s r. place_stays a o s r;
    window_place = λ a o p s r. let z = place_stays a o s r in (z.0, z.1, refl);
    held = held_stays j u x;
    given = given_by j;
    turned = λ s. absurd (other (let z : suc j ≡ suc id = sym s ∙ st.0.0 in let z' : j ≡ id = omega arith in z'));
    turns = λ s. s;
  }

  all_written : (a : ℕ) → a < 4 + n → a < g.written
  all_written a l = subst (λ (z : ℕ). a < z) (sym st.6) l

  first_ok : (i : ℕ) → i < g.plan.len → (m (Number q i) ≡ 2 * first_in i) × (g.put ≤ first_in i) × (first_in i < g.put + g.plan.len) × (first_in i % g.plan.len ≡ i)
  first_ok i l = let x = k.words.preps.num_is q i prep_q l (all_written (4 + i) (let a = len_n in omega arith)) in let p : ℕ = x.0 in let half : first_in i ≡ p = (let y = x.1 in omega arith) in
      (x.1 ∙ ap (λ (z : ℕ). 2 * z) (sym half), (let y = x.2 in let d = plan_put in omega arith), (let y = x.3 in let d = plan_put in omega arith), ap (λ (z : ℕ). z % g.plan.len) half ∙ x.4)

  abbrev note : OpenTail
  note = fit_tail q t n None false

  -- the first slot of the new segment is free for its start, and its tail is there
  noted : TailSeen g' (IsWhole v) note
  noted = record {
    segment = suc g.last;
    there = record { opened = le_refl _; there = ap (λ (s : Seg). s.place) new_seg ∙ ap (λ (s : Seg). s.place) st.5; below = let z = st.4 in omega arith; after = λ l. absurd (omega arith) };
    exact = λ w. sym st.4;
    sized = λ a e. inr (sym (ap or_zero e) ∙ (sym len_n ∙ ap (λ (s : Seg). s.len) (sym new_seg)));
    numbered = λ a e. absurd (true≢false (sym (ap is_some e)));
    slot = λ a e b. inr (subst (λ (z : ℕ). cells' q (t % z) ≡ (t, free)) (ap or_zero e) (free_at (t % n) refl));
    turned = λ b. absurd (true≢false (sym b));
  }
    where
      free_at : (i : ℕ) → t % n ≡ i → cells' q i ≡ (t, free)
      free_at i e =
          let two = (k.words.preps.inside q prep_q).3 in let len = len_n in let near : i < g.plan.len = subst (λ (z : ℕ). z < g.plan.len) e (subst (λ (z : ℕ). t % n < z) (sym len) (mod-lt t (omega arith))) in
          let o = first_ok i near in let put = st.4 in
          let same : t % g.plan.len ≡ first_in i % g.plan.len = ap (λ (z : ℕ). t % z) len ∙ (e ∙ sym o.3) in
          let first : t ≡ first_in i = one_turn t (first_in i) g.plan.len (let a = o.1 in omega arith) (let a = o.2 in omega arith) same in
          ap (λ b. cond b (first_in i, free) (g.cells q i)) (eq-eqb q q refl) ∙ (λ j. (sym first j, free))

  abbrev after : View
  after = opened_by (Preparing d q t n (4 + n)) v

  mine : ViewOk f g' id after
  mine = record {
    of_object = ok.of_object;
    of_callers = ok.of_callers;
    holds = ok.holds;
    joint = ok.joint;
    notes = notes_with g g' k.words.chain grows id (IsWhole v) (λ a. (refl, refl)) (Some note) noted (ap (λ (s : Seg). s.place) new_seg ∙ ap (λ (s : Seg). s.place) st.5) v.notes ok.notes;
    hand = hand_stays g g' k.words.chain grows k.words.homes id active v.caller v.hand (λ a o p s r. place_stays a o s r) (held_stays id v ok) ok.hand;
    ties = λ a b e. ok.ties a b (given_by id a b e);
    stage = (st.0, refl, refl, ap suc st.3, linked_now, ap (λ (s : Seg). s.place) new_seg ∙ ap (λ (s : Seg). s.place) st.5, ap (λ (s : Seg). s.start) new_seg ∙ ap (λ (s : Seg). s.start) st.5, ap (λ (s : Seg). s.place) (old_seg g.now (let o = k.words.links.order in let a = o.1 in let b = o.2 in omega arith)) ∙ (ap (λ (z : ℕ). (g.segs z).place) st.3 ∙ st.7));
    window = window_fact_stays g g' k.words.chain grows k.words.homes v.window (λ a o p s r. let z = place_stays a o s r in (z.0, z.1, refl)) ok.window;
    owned = ok.owned;
  }

  -- nobody watches the new segment
  unwatched : g.watch (suc g.last) ≡ 0
  unwatched = sym (k.seats.watch_is (suc g.last)) ∙ total_zero (watches (suc g.last)) views (λ j u s. none u.window (k.seats.each j u s).window)
    where
      none : (w : Option Window) → WindowFact g w → flag (in_range (suc g.last) w) ≡ 0
      none None x = refl
      none (Some w) x = ⊎_elim (λ (b : in_range (suc g.last) (Some w) ≡ true). absurd (let y = (x.opened (suc g.last) b).0 in omega arith)) (λ (b : in_range (suc g.last) (Some w) ≡ false). ap flag b) (cases_Bool (in_range (suc g.last) (Some w)))

  -- what is said of the segment of a place: of q it is the new one, and of another place as before
  by_place : (F : ℕ → ℕ → Type 0) → F q (suc g.last) → ((a o : ℕ) → q ≢ a → g.home a ≡ suc o → o ≤ g.last → g.prep ≢ suc a → F a o) → (a o : ℕ) → home' a ≡ suc o → F a o
  by_place F new old a o s = ⊎_elim
      (λ (e : q ≡ a). let x : suc g.last ≡ o = (let z : suc (suc g.last) ≡ suc o = sym home_here ∙ (ap home' e ∙ s) in omega arith) in subst (λ (z : ℕ × ℕ). F z.0 z.1) (λ j. (e j, x j)) new)
      (λ (ne : q ≢ a). let h = sym (home_else a ne) ∙ s in old a o ne h (k.words.homes.there a o h).0 (λ z. ne (let y : suc q ≡ suc a = sym prep_q ∙ z in omega arith)))
      (cases_eq q a)

  end_new : end_of segs' (suc g.last) g.put (suc g.last) ≡ g.put
  end_new = ap (λ b. cond b g.put ((segs' (suc (suc g.last))).start)) (eq-eqb (suc g.last) (suc g.last) refl)

  end_old : (a : ℕ) → a ≤ g.last → end_of g.segs g.last g.put a ≡ end_of segs' (suc g.last) g.put a
  end_old a l = ⊎_elim
      (λ (e : a ≡ g.last). ap (λ b. cond b g.put ((g.segs (suc a)).start)) (eq-eqb a g.last e) ∙ (sym plan_put ∙ (ap (λ (s : Seg). s.start) (sym (ap segs' (ap suc e) ∙ new_seg)) ∙ sym (at_next (λ z. omega arith)))))
      (λ (ne : a ≢ g.last). ap (λ b. cond b g.put ((g.segs (suc a)).start)) (ne_eqb a g.last ne) ∙ (ap (λ (s : Seg). s.start) (sym (old_seg (suc a) (omega arith))) ∙ sym (at_next (λ z. omega arith))))
      (cases_eq a g.last)
    where
      at_next : a ≢ suc g.last → end_of segs' (suc g.last) g.put a ≡ (segs' (suc a)).start
      at_next z = ap (λ b. cond b g.put ((segs' (suc a)).start)) (ne_eqb a (suc g.last) z)

  tails : TailsOk (λ p. cond (eqb q p) (2 * t) (m (Tail p))) f.places segs' (suc g.last) g.put 0 home'
  tails p near = ⊎_elim
      (λ (e : q ≡ p). ap (λ b. cond b (2 * t) (m (Tail p))) (eq-eqb q p e) ∙ (two_t ∙ sym (ap (tail_word segs' (suc g.last) g.put 0) (ap home' (sym e) ∙ home_here) ∙ ap (λ b. cond b (2 * g.put + 0) (2 * (segs' (suc (suc g.last))).start + 1)) (eq-eqb (suc g.last) (suc g.last) refl))))
      (λ (ne : q ≢ p). ap (λ b. cond b (2 * t) (m (Tail p))) (ne_eqb q p ne) ∙ (k.words.tails p near ∙ (go (g.home p) refl ∙ ap (tail_word segs' (suc g.last) g.put 0) (sym (home_else p ne)))))
      (cases_eq q p)
    where
      two_t : 2 * t ≡ 2 * g.put + 0
      two_t = let z = st.4 in omega arith

      go : (z : ℕ) → g.home p ≡ z → tail_word g.segs g.last g.put g.shut z ≡ tail_word segs' (suc g.last) g.put 0 z
      go zero s = refl
      go (suc a) s = let l = (k.words.homes.there p a s).0 in let after : tail_word segs' (suc g.last) g.put 0 (suc a) ≡ 2 * (segs' (suc a)).start + 1 = ap (λ b. cond b (2 * g.put + 0) (2 * (segs' (suc a)).start + 1)) (ne_eqb a (suc g.last) (λ z. omega arith)) in ⊎_elim
          (λ (e : a ≡ g.last). let start : (segs' (suc a)).start ≡ g.put = ap (λ (x : ℕ). (segs' (suc x)).start) e ∙ (ap (λ (x : Seg). x.start) new_seg ∙ plan_put) in
          ap (λ b. cond b (2 * g.put + g.shut) (2 * (g.segs (suc a)).start + 1)) (eq-eqb a g.last e) ∙ ((let z : 2 * g.put + g.shut ≡ 2 * (segs' (suc a)).start + 1 = (let y = st.1 in omega arith) in z) ∙ sym after))
          (λ (ne : a ≢ g.last). ap (λ b. cond b (2 * g.put + g.shut) (2 * (g.segs (suc a)).start + 1)) (ne_eqb a g.last ne) ∙ (ap (λ (x : Seg). 2 * x.start + 1) (sym (old_seg (suc a) (omega arith))) ∙ sym after))
          (cases_eq a g.last)

  words : Words f (update m (Tail q) (2 * t)) g'
  words = record {
    counts = k.words.counts;
    calls = k.words.calls;
    chain = opens g.segs g.low g.last g.taken g.put k.words.chain g.plan plan_put (k.words.preps.inside q prep_q).3 (k.words.preps.full q prep_q) (λ a l h e. not_chain a l h (e ∙ (k.words.preps.inside q prep_q).1));
    ranges = record {
      placed = λ a l. ⊎_elim (λ (y : a ≤ g.last). subst (λ (s : Seg). s.place < f.places) (sym (old_seg a y)) (k.words.ranges.placed a y))
          (λ (y : suc g.last ≡ a). subst (λ (s : Seg). s.place < f.places) (sym (ap segs' (sym y) ∙ new_seg)) (let i = k.words.preps.inside q prep_q in subst (λ (z : ℕ). z < f.places) (sym i.1) i.0)) (upto a l);
      sized = λ a l. ⊎_elim (λ (y : a ≤ g.last). subst (λ (s : Seg). s.len ≤ f.slots) (sym (old_seg a y)) (k.words.ranges.sized a y))
          (λ (y : suc g.last ≡ a). subst (λ (s : Seg). s.len ≤ f.slots) (sym (ap segs' (sym y) ∙ new_seg)) (k.words.preps.inside q prep_q).4) (upto a l);
      first_len = k.words.ranges.first_len;
      lengths = λ a l. ⊎_elim (λ (y : a ≤ g.last). subst (λ (s : Seg). IsSegmentLength f.first_len s.len) (sym (old_seg a y)) (k.words.ranges.lengths a y))
          (λ (y : suc g.last ≡ a). subst (λ (s : Seg). IsSegmentLength f.first_len s.len) (sym (ap segs' (sym y) ∙ new_seg)) (k.words.preps.lengths q prep_q).0) (upto a l);
      opening = ap (λ (s : Seg). s.len) (old_seg 0 (omega arith)) ∙ k.words.ranges.opening;
      following = λ a l. ⊎_elim (λ (y : suc a ≤ g.last). subst (λ (s : Seg × Seg). FollowsLength f s.0.len s.1.len) (λ i. (sym (old_seg a (omega arith)) i, sym (old_seg (suc a) y) i)) (k.words.ranges.following a y))
          (λ (y : suc g.last ≡ suc a). let e : g.last ≡ a = omega arith in
          subst (λ (s : Seg × Seg). FollowsLength f s.0.len s.1.len) (λ i. ((ap g.segs e ∙ sym (old_seg a (omega arith))) i, (sym new_seg ∙ ap segs' y) i)) (k.words.preps.lengths q prep_q).1)
          (upto (suc a) l);
    };
    homes = record {
      there = by_place (λ a o. (o ≤ suc g.last) × ((segs' o).place ≡ a)) (le_refl _, ap (λ (s : Seg). s.place) new_seg ∙ (k.words.preps.inside q prep_q).1)
          (λ a o ne h l p. (let z : o ≤ suc g.last = omega arith in z, ap (λ (s : Seg). s.place) (old_seg o l) ∙ (k.words.homes.there a o h).1));
      chain = λ a l h. ⊎_elim (λ (y : a ≤ g.last). ap home' (ap (λ (s : Seg). s.place) (old_seg a y)) ∙ (home_else ((g.segs a).place) (λ e. not_chain a l y (sym e)) ∙ k.words.homes.chain a l y))
          (λ (y : suc g.last ≡ a). ap home' (ap (λ (s : Seg). s.place) (ap segs' (sym y) ∙ new_seg) ∙ (k.words.preps.inside q prep_q).1) ∙ (home_here ∙ ap suc y)) (upto a h);
      latest = λ a h. ⊎_elim (λ (y : a ≤ g.last). subst (λ (s : Seg). a < home' s.place) (sym (old_seg a y)) (⊎_elim
          (λ (e : q ≡ (g.segs a).place). subst (λ (z : ℕ). a < z) (sym (ap home' (sym e) ∙ home_here)) (omega arith))
          (λ (ne : q ≢ (g.segs a).place). subst (λ (z : ℕ). a < z) (sym (home_else ((g.segs a).place) ne)) (k.words.homes.latest a y))
          (cases_eq q ((g.segs a).place))))
          (λ (y : suc g.last ≡ a). subst (λ (z : ℕ). a < z) (sym (ap home' (ap (λ (s : Seg). s.place) (ap segs' (sym y) ∙ new_seg) ∙ (k.words.preps.inside q prep_q).1) ∙ home_here)) (omega arith)) (upto a h);
    };
    tails = tails;
    links = record {
      first_is = k.words.links.first_is ∙ ap (λ (s : Seg). s.place) (sym (old_seg g.low k.words.chain.inside));
      current_is = k.words.links.current_is ∙ ap (λ (s : Seg). s.place) (sym (old_seg g.now (let o = k.words.links.order in let a = o.1 in let b = o.2 in omega arith)));
      order = let o = k.words.links.order in (o.0, o.1, (let z : g.linked ≤ suc g.last = (let a = o.2 in omega arith) in z), (let z : suc g.last ≤ suc g.now = (let a = st.3 in omega arith) in z));
      next_is = λ a l h p. let o = k.words.links.order.2 in let s = old_seg a (omega arith) in let place : (segs' a).place ≡ (g.segs a).place = ap (λ (s : Seg). s.place) s in
          let ne : q ≢ (g.segs a).place = (λ e. let z : suc (suc g.last) ≡ suc a = sym home_here ∙ (ap home' (e ∙ sym place) ∙ h) in omega arith) in
          ap (λ z. m (Next z)) place ∙ (k.words.links.next_is a l (sym (home_else ((g.segs a).place) ne) ∙ (ap home' (sym place) ∙ h)) (λ z. ne (let y : suc q ≡ suc ((g.segs a).place) = sym prep_q ∙ z in omega arith))
          ∙ ap (λ (s : Seg). s.place) (sym (old_seg (suc a) (omega arith))));
    };
    sizes = k.words.sizes;
    nexts = k.words.nexts;
    places = λ a o h p. by_place (λ a o. (m (Start a) ≡ (segs' o).start) × (m (Length a) ≡ (segs' o).len) × (m (Segment a) ≡ o))
        (k.words.preps.start_is q prep_q (all_written 1 (omega arith)) ∙ ap (λ (s : Seg). s.start) (sym new_seg), k.words.preps.len_is q prep_q (all_written 0 (omega arith)) ∙ ap (λ (s : Seg). s.len) (sym new_seg), k.words.preps.number_is q prep_q (all_written 3 (omega arith)))
        (λ a o ne h l p. let x = k.words.places a o h p in let s = sym (old_seg o l) in (x.0 ∙ ap (λ (s : Seg). s.start) s, x.1 ∙ ap (λ (s : Seg). s.len) s, x.2)) a o h;
    slots = open_slots (λ a b. m (Number a b)) (λ a b. m (Item a b)) g.values g.taken g.put g.segs g.last g.home g.cells q g.plan first_in plan_put first_ok (λ a o h. (k.words.homes.there a o h).0)
        (subst (λ (z : ℕ). SlotsOk (λ a b. m (Number a b)) (λ a b. m (Item a b)) g.values g.taken g.put g.segs g.last g.home g.cells z) prep_q k.words.slots);
    strays = λ a b p e. ⊎_elim (λ l. inl l) (λ (y : (o : ℕ) × (g.home a ≡ suc o) × (g.prep ≢ suc a) × (b < (g.segs o).len)). let z = place_stays a y.0 y.1 y.2 in inr (y.0, z.0, z.1, subst (λ (s : Seg). b < s.len) (sym (old_seg y.0 (k.words.homes.there a y.0 y.1).0)) y.3)) (k.words.strays a b p e);
    dones = λ a o h p. by_place (λ a o. m (Done a) + g.untold a ≡ passed g.taken ((segs' o).start) (end_of segs' (suc g.last) g.put o))
        (let x = k.words.preps.done_is q prep_q (all_written 2 (omega arith)) in let y = k.words.preps.no_take q prep_q in let z : m (Done q) + g.untold q ≡ 0 = omega arith in
        z ∙ sym ((λ j. passed g.taken ((new_seg j).start) (end_new j)) ∙ passed_low g.taken g.plan.start g.put (let b = k.words.counts.behind in let d = plan_put in omega arith) (let d = plan_put in omega arith)))
        (λ a o ne h l p. k.words.dones a o h p ∙ (λ j. passed g.taken ((sym (old_seg o l) j).start) (end_old o l j))) a o h;
    observers = λ a near. ⊎_elim
        (λ (e : q ≡ a). k.words.observers a near ∙ (watched_old (g.home a) (ap g.home e) ∙ sym (ap (watched g.watch) (ap home' (sym e) ∙ home_here) ∙ unwatched)))
        (λ (ne : q ≢ a). k.words.observers a near ∙ ap (watched g.watch) (sym (home_else a ne)))
        (cases_eq q a);
    bars = k.words.bars;
    turns = record { word_is = k.words.turns.word_is; idle = λ e. absurd (let z : 0 ≡ suc id = sym e ∙ st.0.0 in omega arith); calm = λ e. refl; bit = let z : 0 ≤ 1 = omega arith in z };
    preps = no_prep (λ a. m (Start a)) (λ a. m (Length a)) (λ a. m (Done a)) (λ a. m (Segment a)) (λ a b. m (Number a b)) f segs' g.low (suc g.last) g.put home' g.untold g.watch 0 g.plan g.written refl;
  }
    where
      upto : (a : ℕ) → a ≤ suc g.last → (a ≤ g.last) ⊎ (suc g.last ≡ a)
      upto a l = ⊎_elim (λ (y : g.last < a). inr (omega arith)) (λ (y : a ≤ g.last). inl y) (cases_lt g.last a)

      watched_old : (z : ℕ) → g.home q ≡ z → watched g.watch z ≡ 0
      watched_old zero s = refl
      watched_old (suc o) s = (k.words.preps.apart q o prep_q s).1

  pub opened_kept : Kept f (update m (Tail q) (2 * t)) (set views id after)
  opened_kept = kept_after f m (update m (Tail q) (2 * t)) views k id v after g' at words record {
    rely = λ j u other there y. others j u other y;
    mine = mine;
    paid_by = refl;
    untold_by = λ a. refl;
    watch_by = λ a. refl;
    seated = λ a b j other e. given_by j a b e;
    turned = λ j other e. e;
    seen = ((λ e. e), inr refl);
  }
