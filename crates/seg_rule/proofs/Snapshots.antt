-- What is known of the first place of a window, what a load of it notes, and what that tells.
use Rattle.std.proofs.Common.{◌≡◌, ℕ, suc, ◌+◌, ◌-◌, ◌*◌, ◌/◌, ◌%◌, ◌<◌, ◌≤◌, ◌≢◌, inl, inr, ⊎_elim, eqb, ltb, leb, cond, Bool, true, false, true≢false, ◌&&◌, List, [], ◌∷◌, length, slice_get, sym, refl, ap, ◌∙◌, subst, arith, le_refl, ne_eqb}
use Rattle.std.proofs.lemmas.Bool.{and_parts, eqb-true, eqb-false, ltb-true, leb-true, cases_lt, cases_eq}
use mathlib.Core.Option.{some}
use lib.ListN.{get_elem?}
use Rattle.std.specs.Prelude.{Option, Some, None, IfSome}
use Rattle.ho_base.specs.Marks.{Mark}
use Rattle.passes.specs.Numbers.{HasNumber}
use Rattle.ho_model.specs.Enqueues.{values_of, putters_of}
use Rattle.ho_model.proofs.Enqueues.{values_of-append, putters_of-append, putters_count}
use Rattle.seg_rule.specs.declared.form.Form.{Form}
use Rattle.seg_rule.specs.declared.word.QueueWord.{QueueWord}
use Rattle.seg_rule.specs.declared.word.QueueWord.TheVariants.{Tail, Length, Next, Number, Item}
use Rattle.seg_rule.specs.declared.view.View.{View}
use Rattle.seg_rule.specs.declared.view.Window.{Window}
use Rattle.seg_rule.specs.declared.view.Stage.TheVariants.{Observing}
use Rattle.seg_rule.specs.Words.{Memory}
use Rattle.seg_rule.specs.Chain.{ChainOk, end_of}
use Rattle.seg_rule.specs.Slots.{SlotOk}
use Rattle.seg_rule.specs.Rule.{Ghosts, ViewOk, WindowOk, WindowFact, StageOk, ShownAt, tail_word, Kept}
use Rattle.seg_rule.specs.Loads.{is_slot_by, is_inside, lies_at}
use Rattle.seg_rule.specs.Tells.{SeesItem, TellsWindow}
use Rattle.seg_rule.proofs.Spans.{range_is, range_told}
use Rattle.seg_rule.proofs.Chains.{rises, numbers_low}
use Rattle.seg_rule.proofs.Slots.{published_is, slot_tells}
use Rattle.seg_rule.proofs.Object.{got_before}
use Rattle.seg_rule.proofs.Causes.{in_flight}

module _ (g : Ghosts) (o : Window) (x : WindowOk g o) where
  -- a window over one segment
  pub one_left : o.first ≡ o.last → o.end ≡ suc o.begin
  one_left same_place = ⊎_elim
      (λ (l : suc o.begin < o.end). absurd (
      let top : suc (o.end - 1) ≡ o.end = omega arith in
      let a = x.opened o.begin (range_is o.begin o.end o.begin (le_refl _) x.some) in let c = x.opened (o.end - 1) (range_is o.begin o.end (o.end - 1) (omega arith) (omega arith)) in
      let both : (g.segs o.begin).place ≡ (g.segs (o.end - 1)).place = x.first x.some ∙ (same_place ∙ sym (x.last (o.end - 1) (sym top) (omega arith))) in
      let z : suc o.begin ≡ suc (o.end - 1) = sym a.1 ∙ (ap g.home both ∙ c.1) in omega arith))
      (λ (l : o.end ≤ suc o.begin). let some_left = x.some in omega arith) (cases_lt (suc o.begin) o.end)

  -- and over more
  pub more_left : o.first ≢ o.last → suc o.begin < o.end
  more_left more = ⊎_elim (λ (l : suc o.begin < o.end). l)
      (λ (l : o.end ≤ suc o.begin). absurd (more (sym (x.first x.some) ∙ x.last o.begin (let some_left = x.some in omega arith) (le_refl _)))) (cases_lt (suc o.begin) o.end)

  -- its first place shows the first segment
  pub first_opened : (o.begin ≤ g.last) × (g.home ((g.segs o.begin).place) ≡ suc o.begin) × (g.prep ≢ suc ((g.segs o.begin).place)) × (o.begin ≤ g.linked)
  first_opened = x.opened o.begin (range_is o.begin o.end o.begin (le_refl _) x.some)

  -- what is known of a position in the slot i of the segment n
  abbrev LiesIn : ℕ → ℕ → ℕ → Type 0
  LiesIn a n i = (i < (g.segs n).len) × (a % (g.segs n).len ≡ i) × (a < end_of g.segs g.last g.put n) × ((g.cells ((g.segs n).place) i).0 ≡ a) × (g.bar n ≤ a)

  -- a position of the window, which is none of a segment after the first one
  in_first : (a i : ℕ) → o.head ≤ a → a < o.tail → a % (g.segs o.begin).len ≡ i → ((n : ℕ) → o.begin ≤ n → n < o.end → (g.segs n).start ≤ a → n ≡ o.begin) → LiesIn a o.begin i
  in_first a i lo hi slot none_later =
      let t = x.there a lo hi in let n : ℕ = t.0 in let r = range_told o.begin o.end n t.2 in
      let same : n ≡ o.begin = none_later n r.0 r.1 t.3 in
      let here : t.1 ≡ i = sym t.6 ∙ (ap (λ z. a % (g.segs z).len) same ∙ slot) in
      subst (λ (z : ℕ × ℕ). LiesIn a z.0 z.1) (λ j. (same j, here j)) (t.5, t.6, t.4, t.7, t.8)

  module _ (c : ChainOk g.segs g.low g.last g.taken g.put) where
    -- a position below the start of the second segment
    not_later : (a n : ℕ) → suc o.begin < o.end → a < (g.segs (suc o.begin)).start → o.begin ≤ n → n < o.end → (g.segs n).start ≤ a → n ≡ o.begin
    not_later a n more below l h start = ⊎_elim (λ (e : n ≡ o.begin). e)
        (λ (ne : n ≢ o.begin). absurd (let top = (x.opened n (range_is o.begin o.end n l h)).0 in let up = rises g.segs g.low g.last g.taken g.put c (suc o.begin) n (omega arith) top in omega arith))
        (cases_eq n o.begin)

    -- by what was read of its first place
    pub lies_in : (i a : ℕ) → lies_at o i a ≡ true → (o.head ≤ a) × (a < o.tail) × LiesIn a o.begin i
    lies_in i a e =
        let p = and_parts (leb o.head a) (ltb a o.tail && (is_slot_by o.length i a && is_inside (eqb o.first o.last) o.ends a)) e in
        let q = and_parts (ltb a o.tail) (is_slot_by o.length i a && is_inside (eqb o.first o.last) o.ends a) p.1 in
        let r = and_parts (is_slot_by o.length i a) (is_inside (eqb o.first o.last) o.ends a) q.1 in
        let lo = leb-true o.head a p.0 in let hi = ltb-true a o.tail q.0 in
        (lo, hi, in_first a i lo hi (slot_by o.length x.length r.0) (λ n. inside_by n (eqb o.first o.last) refl o.ends x.ends r.1))
      where
        slot_by : (l : Option ℕ) → IfSome l (λ n. n ≡ (g.segs o.begin).len) → is_slot_by l i a ≡ true → a % (g.segs o.begin).len ≡ i
        slot_by None y s = absurd (true≢false (sym s))
        slot_by (Some n) y s = subst (λ z. a % z ≡ i) y (eqb-true (a % n) i s)

        inside_by : (n : ℕ) (b : Bool) → eqb o.first o.last ≡ b → (ends : Option ℕ) → IfSome ends (λ z. suc o.begin < o.end → (g.segs (suc o.begin)).start ≡ z) → is_inside b ends a ≡ true → o.begin ≤ n → n < o.end → (g.segs n).start ≤ a → n ≡ o.begin
        inside_by n true is ends y s l h start = let one = one_left (eqb-true o.first o.last is) in omega arith
        inside_by n false is None y s l h start = absurd (true≢false (sym s))
        inside_by n false is (Some z) y s l h start = let more = more_left (eqb-false o.first o.last is) in let end = y more in let below = ltb-true a z s in not_later a n more (omega arith) l h start

module _ (f : Form) (m : Memory) (views : List View) (id : ℕ) (v : View) (k : Kept f m views) (at : get_elem? views id ≡ some v) where
  abbrev g : Ghosts
  g = k.g

  abbrev ok : ViewOk f g id v
  ok = k.seats.each id v at

  module _ (o : Window) (x : WindowOk g o) where
    abbrev q : ℕ
    q = (g.segs o.begin).place

    abbrev opened : (o.begin ≤ g.last) × (g.home q ≡ suc o.begin) × (g.prep ≢ suc q) × (o.begin ≤ g.linked)
    opened = first_opened g o x

    -- Its words.

    -- the tail, where segments follow
    first_end : suc o.begin < o.end → m (Tail o.first) ≡ 2 * (g.segs (suc o.begin)).start + 1
    first_end more =
        let after = (x.opened (suc o.begin) (range_is o.begin o.end (suc o.begin) (omega arith) more)).0 in
        ap (λ z. m (Tail z)) (sym (x.first x.some)) ∙ (k.words.tails q (k.words.ranges.placed o.begin opened.0)
        ∙ (ap (tail_word g.segs g.last g.put g.shut) opened.1 ∙ ap (λ b. cond b (2 * g.put + g.shut) (2 * (g.segs (suc o.begin)).start + 1)) (ne_eqb o.begin g.last (omega arith))))

    slot_ok : (i : ℕ) → i < (g.segs o.begin).len → SlotOk (g.segs o.begin).len g.values g.taken (g.segs o.begin).start (end_of g.segs g.last g.put o.begin) (m (Number q i)) (m (Item q i)) i (g.cells q i)
    slot_ok i near = k.words.slots q o.begin i opened.1 opened.2 near

    at_number : (i : ℕ) → m (Number o.first i) ≡ m (Number q i)
    at_number i = ap (λ z. m (Number z i)) (sym (x.first x.some))

    -- What a load notes of them.

    pub ends_noted : (y : ℕ) → m (Tail o.first) ≡ y → suc o.begin < o.end → (g.segs (suc o.begin)).start ≡ y / 2
    ends_noted y now more = let e = first_end more in omega arith

    pub length_noted : (y : ℕ) → m (Length o.first) ≡ y → y ≡ (g.segs o.begin).len
    length_noted y now = sym now ∙ (ap (λ z. m (Length z)) (sym (x.first x.some)) ∙ (k.words.places q o.begin opened.1 opened.2).1)

    pub after_noted : (y : ℕ) → m (Next o.first) ≡ y → suc o.begin < o.end → y ≡ (g.segs (suc o.begin)).place
    after_noted y now more =
        let after = x.opened (suc o.begin) (range_is o.begin o.end (suc o.begin) (omega arith) more) in
        sym now ∙ (ap (λ z. m (Next z)) (sym (x.first x.some)) ∙ k.words.links.next_is o.begin after.3 opened.1 opened.2)

    pub shown_noted : (i y : ℕ) → m (Number o.first i) ≡ y → ShownAt g o (i, y)
    shown_noted i y now a is lo hi near =
        let slot = slot_ok i near in
        let told = published_is (g.segs o.begin).len g.values g.taken (g.segs o.begin).start (end_of g.segs g.last g.put o.begin) (m (Number q i)) (m (Item q i)) i a (g.cells q i) slot (sym (at_number i) ∙ (now ∙ is)) in
        let s = in_first g o x a i lo hi told.0 (λ n l h start. ends_first a told.2 n l h start) in
        let shows = slot.shows in let number : m (Number q i) ≡ 2 * a + 1 = sym (at_number i) ∙ (now ∙ is) in let cell = s.3 in
        (s.3, (omega arith), s.4)
      where
        ends_first : (a : ℕ) → a < end_of g.segs g.last g.put o.begin → (n : ℕ) → o.begin ≤ n → n < o.end → (g.segs n).start ≤ a → n ≡ o.begin
        ends_first a under n l h start = ⊎_elim (λ (e : n ≡ o.begin). e)
            (λ (ne : n ≢ o.begin). let top = (x.opened n (range_is o.begin o.end n l h)).0 in
            not_later g o x k.words.chain a n (omega arith) (subst (λ z. a < z) (ap (λ b. cond b g.put ((g.segs (suc o.begin)).start)) (ne_eqb o.begin g.last (omega arith))) under) l h start)
            (cases_eq n o.begin)

  -- what was seen of the history
  values_seen : (a y : ℕ) → get_elem? g.values a ≡ some (y ∷ []) → SeesItem v a y
  values_seen a y e l = let b = ok.holds.behind in
      got_before (values_of v.seen) (values_of b.0) a (y ∷ []) l (ap (λ (z : List Mark). get_elem? z a) (sym (values_of-append v.seen b.0) ∙ (ap values_of (sym b.1) ∙ k.words.counts.stands.1)) ∙ e)

  putters_seen : (a c : ℕ) → get_elem? g.putters a ≡ some c → a < length (values_of v.seen) → slice_get (putters_of v.seen) a ≡ Some c
  putters_seen a c e l = let b = ok.holds.behind in let same = putters_count v.seen in
      got_before (putters_of v.seen) (putters_of b.0) a c (omega arith) (ap (λ (z : List ℕ). get_elem? z a) (sym (putters_of-append v.seen b.0) ∙ (ap putters_of (sym b.1) ∙ k.words.counts.stands.2)) ∙ e)

  -- while places are observed, segments that others follow are numbered below the tail
  observed_below : (q t b n p : ℕ) → v.stage ≡ Observing q t b n p → p ≢ q → n < t
  observed_below q t b n p is other =
      let st : StageOk g id (HasNumber v.held v.caller) v.caller (Observing q t b n p) = subst (StageOk g id (HasNumber v.held v.caller) v.caller) is ok.stage in
      let low = numbers_low g.segs g.low g.last g.taken g.put k.words.chain g.last (le_refl _) in let ends = k.words.chain.ends in let at_tail = st.4 in let top = st.8 in
      let apart : n ≢ g.last = (λ e. other (sym st.9 ∙ (ap (λ z. (g.segs z).place) e ∙ st.5))) in omega arith

  -- what a load of the first place tells
  pub tells_window : (w : QueueWord) (y : ℕ) → m w ≡ y → (o : Window) → v.window ≡ Some o → TellsWindow w y v o
  tells_window w y now o is = let x : WindowOk g o = subst (WindowFact g) is ok.window in record {
    closed = λ e ne. let end : y ≡ 2 * (g.segs (suc o.begin)).start + 1 = sym now ∙ (ap m e ∙ first_end o x (more_left g o x ne)) in omega arith;
    more = λ e ne. more_left g o x ne;
    number = λ i a e idle lies. let s = lies_in g o x k.words.chain i a lies in let slot = slot_ok o x i s.2.0 in let n : ℕ = o.begin in
        let number : m (Number ((g.segs n).place) i) ≡ y = sym (at_number o x i) ∙ (ap m (sym e) ∙ now) in
        ⊎_elim
        (λ (free : m (Number ((g.segs n).place) i) ≡ 2 * a). let c = in_flight f m views id v k at ((g.segs n).place) i n a idle ((first_opened g o x).1, (first_opened g o x).2, s.2.0) free s.2.2 in
        inr (sym number ∙ free, record { putter = c.0; enqueued = putters_seen a c.0 c.1; not_held = c.3.not_held; not_whole = c.3.not_whole }))
        (λ (told : (m (Number ((g.segs n).place) i) ≡ 2 * a + 1) × (get_elem? g.values a ≡ some (m (Item ((g.segs n).place) i) ∷ []))). inl (sym number ∙ told.0))
        (slot_tells (g.segs n).len g.values g.taken (g.segs n).start (end_of g.segs g.last g.put n) (m (Number ((g.segs n).place) i)) (m (Item ((g.segs n).place) i)) i a (g.cells ((g.segs n).place) i) slot s.2.3 s.2.2);
    item = λ i a e lies shown. let s = lies_in g o x k.words.chain i a lies in let slot = slot_ok o x i s.2.0 in let n : ℕ = o.begin in
        let told = (subst (λ z. IfSome z (ShownAt g o)) shown x.shown) a refl s.0 s.1 s.2.0 in
        let item : m (Item ((g.segs n).place) i) ≡ y = ap (λ z. m (Item z i)) (x.first x.some) ∙ (ap m (sym e) ∙ now) in
        values_seen a y (⊎_elim
        (λ (free : m (Number ((g.segs n).place) i) ≡ 2 * a). absurd (let shows = slot.shows in let cell = told.0 in let one = told.1 in omega arith))
        (λ (there : (m (Number ((g.segs n).place) i) ≡ 2 * a + 1) × (get_elem? g.values a ≡ some (m (Item ((g.segs n).place) i) ∷ []))). subst (λ z. get_elem? g.values a ≡ some (z ∷ [])) item there.1)
        (slot_tells (g.segs n).len g.values g.taken (g.segs n).start (end_of g.segs g.last g.put n) (m (Number ((g.segs n).place) i)) (m (Item ((g.segs n).place) i)) i a (g.cells ((g.segs n).place) i) slot s.2.3 s.2.2));
    below = observed_below;
  }
