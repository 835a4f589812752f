-- Place words: a free place is prepared, in the order start, length, done, segment, numbers.
use Rattle.std.proofs.Common.{◌≡◌, ℕ, suc, ◌+◌, ◌*◌, ◌%◌, ◌^◌, ◌<◌, ◌≤◌, ◌≢◌, ◌⊎◌, inl, inr, ⊎_elim, eqb, cond, Bool, true, false, List, set, sym, refl, ap, ◌∙◌, subst, arith, le_trans, le_refl, eq-eqb, ne_eqb, mod-eq_of_lt}
use Rattle.std.proofs.lemmas.Bool.{cases_eq, cond_both}
use mathlib.Core.Option.{some}
use lib.ListN.{get_elem?}
use Rattle.passes.specs.Numbers.{HasNumber}
use Rattle.seg_rule.specs.declared.word.QueueWord.TheVariants.{Start, Length, Done, Segment, Number, Item}
use Rattle.seg_rule.specs.declared.view.View.{View}
use Rattle.std.specs.Prelude.{Some}
use Rattle.seg_rule.specs.declared.view.OpenTail.{OpenTail}
use Rattle.seg_rule.specs.declared.view.Hand.{Hand}
use Rattle.seg_rule.specs.declared.view.Hand.TheVariants.{Nothing, Reserved, Stored, Taking}
use Rattle.seg_rule.specs.declared.view.Stage.TheVariants.{Found, Preparing}
use Rattle.seg_rule.specs.Words.{Memory, update}
use Rattle.seg_rule.specs.Chain.{Seg, end_of}
use Rattle.seg_rule.specs.Slots.{writing, stored, SlotOk}
use Rattle.seg_rule.specs.Places.{put_at}
use Rattle.seg_rule.specs.declared.form.Form.{Form}
use Rattle.seg_rule.specs.Rule.{FollowsLength, Ghosts, IsWhole, HandOk, IsFree, StageOk, ViewOk, Words, Kept, watches, in_range, takes_at, takes_in, flag, TailSeen, TailFact}
use Rattle.seg_rule.specs.Rely.{Grows, HandPlace}
use Rattle.seg_rule.proofs.Chains.{rises, numbers_low, not_stale}
use Rattle.seg_rule.proofs.Slots.{published_is}
use Rattle.seg_rule.proofs.Places.{at_here, at_else}
use Rattle.std.specs.Prelude.{Some}
use Rattle.seg_layout.specs.Lengths.{IsSegmentLength, next_len_of}
use Rattle.seg_layout.proofs.Powers.{next_is_length}
use Rattle.seg_rule.specs.Steps.{on_stage, is_observed, MayBegin, MayNumber, MayShow}
use Rattle.seg_rule.proofs.Bounds.{few_put}
use Rattle.seg_rule.proofs.Stays.{notes_alone, hand_stays, window_fact_stays}
use Rattle.seg_rule.proofs.Frames.{kept_after, strays_put}
use Rattle.seg_rule.proofs.Sums.{total_part}
use Rattle.seg_rule.proofs.Calm.{calm}

module _ (f : Form) (m : Memory) (views : List View) (id : ℕ) (v : View) (k : Kept f m views) (at : get_elem? views id ≡ some v) where
  abbrev g : Ghosts
  g = k.g

  abbrev ok : ViewOk f g id v
  ok = k.seats.each id v at

  abbrev active : Type 0
  active = HasNumber v.held v.caller

  -- the positions of a segment that left the chain were taken
  retired : (n : ℕ) → n < g.low → end_of g.segs g.last g.put n ≤ g.taken
  retired n l = let i = k.words.chain.inside in let r = rises g.segs g.low g.last g.taken g.put k.words.chain (suc n) g.low l i in let b = k.words.chain.base in
      subst (λ (z : ℕ). z ≤ g.taken) (sym (ap (λ b. cond b g.put ((g.segs (suc n)).start)) (ne_eqb n g.last (λ e. omega arith)))) (le_trans r b)

  -- the length that was read of the current place gives that of the next segment
  pub next_right : (q t n l : ℕ) (b : Bool) (o : OpenTail) → (g.segs g.last).place ≡ q → g.put ≡ t → v.notes.tail ≡ Some o → o.place ≡ q → o.position ≡ t → o.length ≡ Some l → n ≡ next_len_of f.first_len l b
      → IsSegmentLength f.first_len n × FollowsLength f (g.segs g.last).len n
  next_right q t n l b o at_q at_t noted in_q pos sized is =
      let s : TailSeen g (IsWhole v) o = subst (TailFact g (IsWhole v)) noted ok.notes.tail in
      let seg : s.segment ≡ g.last = not_stale g.segs g.low g.last g.taken g.put k.words.chain o.place o.position s.segment s.there (at_q ∙ sym in_q) (at_t ∙ sym pos) in
      let len : l ≡ (g.segs g.last).len = ⊎_elim (λ (z : o.position < g.put). absurd (omega arith)) (λ (z : l ≡ (g.segs s.segment).len). z ∙ ap (λ y. (g.segs y).len) seg) (s.sized l sized) in
      let last = k.words.ranges.lengths g.last (le_refl _) in
      let next = next_is_length f.first_len (g.segs g.last).len b k.words.ranges.first_len last in
      let value : n ≡ next_len_of f.first_len (g.segs g.last).len b = is ∙ ap (λ z. next_len_of f.first_len z b) len in
      (subst (IsSegmentLength f.first_len) (sym value) next, follows b value)
    where
      follows : (b : Bool) → n ≡ next_len_of f.first_len (g.segs g.last).len b → FollowsLength f (g.segs g.last).len n
      follows true e = inl e
      follows false e = inr e

  -- the preparation of the place p begins with its length
  module _ (q t p n : ℕ) (is : v.stage ≡ Found q t p) (near : p < f.places) (two : 2 ≤ n) (fits : n ≤ f.slots) (right : IsSegmentLength f.first_len n × FollowsLength f (g.segs g.last).len n) where
    st : StageOk g id active v.caller (Found q t p)
    st = subst (StageOk g id active v.caller) is ok.stage

    abbrev g' : Ghosts
    g' = record g { prep = suc p; plan = record { place = p; start = t; len = n }; written = 1 }

    grows : Grows g g'
    grows = calm g g.log g.made g.owner g.paid g.now g.linked g.untold g.watch g.turn g.called g.shut (suc p) (record { place = p; start = t; len = n }) 1 (le_refl _)

    idle : (a : ℕ) → g.prep ≢ suc a
    idle a e = let z : 0 ≡ suc a = sym st.2 ∙ e in omega arith

    is_free : IsFree g p
    is_free = st.7

    other_place : (a : ℕ) → p ≢ a → suc p ≢ suc a
    other_place a ne e = ne (omega arith)

    -- nobody has a position of the place in hand
    in_flight : (a i n : ℕ) → g.home a ≡ suc n → i < (g.segs n).len → (x j : ℕ) → (g.cells a i ≡ (x, writing j)) ⊎ (g.cells a i ≡ (x, stored j)) → p ≢ a
    in_flight a i n h l x j c e = let low = is_free.1 n (ap g.home e ∙ h) in let over = retired n low in
        let slot = k.words.slots a n i h (idle a) l in
        let hi : (g.taken ≤ x) × (x < end_of g.segs g.last g.put n) = ⊎_elim
        (λ (y : g.cells a i ≡ (x, writing j)). (subst (SlotOk (g.segs n).len g.values g.taken (g.segs n).start (end_of g.segs g.last g.put n) (m (Number a i)) (m (Item a i)) i) y slot).phase)
        (λ (y : g.cells a i ≡ (x, stored j)). let z = (subst (SlotOk (g.segs n).len g.values g.taken (g.segs n).start (end_of g.segs g.last g.put n) (m (Number a i)) (m (Item a i)) i) y slot).phase in (z.0, z.1)) c in
        let lo = hi.0 in let up = hi.1 in omega arith

    not_in_hand : (j : ℕ) (act : Type 0) (c : ℕ) (h : Hand) → takes_at p h ≤ g.untold p → HandOk g j act c h → (a : ℕ) → HandPlace h a → p ≢ a
    not_in_hand j act c Nothing l x a y = absurd y
    not_in_hand j act c (Reserved z q' i w) l x a y = subst (λ (r : ℕ). p ≢ r) y (in_flight q' i x.1.0 x.1.1.0 x.1.1.2 z j (inl x.2))
    not_in_hand j act c (Stored z q' i w) l x a y = subst (λ (r : ℕ). p ≢ r) y (in_flight q' i x.1.0 x.1.1.0 x.1.1.2 z j (inr x.2))
    not_in_hand j act c (Taking z q' i w) l x a y = λ e. let one : flag (eqb q' p) ≡ 1 = ap flag (eq-eqb q' p (y ∙ sym e)) in let none = is_free.3 in let l' : flag (eqb q' p) ≤ g.untold p = l in omega arith

    hand_apart : (j : ℕ) (u : View) → get_elem? views j ≡ some u → ViewOk f g j u → (a n : ℕ) → HandPlace u.hand a → g.home a ≡ suc n → g.prep ≢ suc a → (g.home a ≡ suc n) × (suc p ≢ suc a)
    hand_apart j u there x a n y h i = (h, other_place a (not_in_hand j (HasNumber u.held u.caller) u.caller u.hand (let t = total_part (takes_in p) views j u there in let w = k.seats.untold_is p in omega arith) x.hand a y))

    -- and nobody watches it
    window_apart : (j : ℕ) (u : View) → get_elem? views j ≡ some u → (a n : ℕ) → in_range n u.window ≡ true → g.home a ≡ suc n → g.prep ≢ suc a → (g.home a ≡ suc n) × (suc p ≢ suc a) × (g.bar n ≡ g.bar n)
    window_apart j u there a n r h i = (h, other_place a (λ e. let none = is_free.2 n (ap g.home e ∙ h) in let t = total_part (watches n) views j u there in let w = k.seats.watch_is n in let one : watches n u ≡ 1 = ap flag r in omega arith), refl)

    words : Words f (update m (Length p) n) g'
    words = record {
      counts = k.words.counts;
      calls = k.words.calls;
      chain = k.words.chain;
      ranges = k.words.ranges;
      homes = k.words.homes;
      tails = k.words.tails;
      links = let l = k.words.links in record { first_is = l.first_is; current_is = l.current_is; order = l.order; next_is = λ a s h i. l.next_is a s h (idle ((g.segs a).place)) };
      sizes = λ a l. cond_both (eqb p a) n (m (Length a)) (IsSegmentLength f.first_len) (λ e. right.0) (λ e. k.words.sizes a l);
      nexts = k.words.nexts;
      places = λ a b h i. let o = k.words.places a b h (idle a) in (o.0, ap (λ z. cond z n (m (Length a))) (ne_eqb p a (λ e. i (ap suc e))) ∙ o.1, o.2);
      slots = λ a n i h o near. k.words.slots a n i h (idle a) near;
      strays = λ a b x e. ⊎_elim (λ l. inl l)
          (λ (y : (n : ℕ) × (g.home a ≡ suc n) × (g.prep ≢ suc a) × (b < (g.segs n).len)). ⊎_elim
          (λ (s : p ≡ a). inl (let low = is_free.1 y.0 (ap g.home s ∙ y.1) in
          let z = published_is (g.segs y.0).len g.values g.taken (g.segs y.0).start (end_of g.segs g.last g.put y.0) (m (Number a b)) (m (Item a b)) b x (g.cells a b) (k.words.slots a y.0 b y.1 y.2 y.3) e in le_trans z.2 (retired y.0 low)))
          (λ (ne : p ≢ a). inr (y.0, y.1, other_place a ne, y.3)) (cases_eq p a))
          (k.words.strays a b x e);
      dones = λ a n h i. k.words.dones a n h (idle a);
      observers = k.words.observers;
      bars = k.words.bars;
      turns = record { word_is = k.words.turns.word_is; idle = λ e. absurd (let z : 0 ≡ suc id = sym e ∙ st.0.0 in omega arith); calm = λ e. absurd (let z : 0 ≡ 1 = sym e ∙ st.1 in omega arith); bit = k.words.turns.bit };
      preps = record {
        inside = λ a e. let s : p ≡ a = (let z : suc p ≡ suc a = e in omega arith) in (subst (λ (z : ℕ). z < f.places) s near, s, sym st.4, two, fits);
        lengths = λ a e. right;
        apart = λ a n e h. let s : p ≡ a = (let z : suc p ≡ suc a = e in omega arith) in (is_free.1 n (ap g.home s ∙ h), is_free.2 n (ap g.home s ∙ h));
        no_take = λ a e. let s : p ≡ a = (let z : suc p ≡ suc a = e in omega arith) in ap g.untold (sym s) ∙ is_free.3;
        full = λ a e. subst (λ (z : ℕ). (g.segs g.last).start + (g.segs g.last).len ≤ z) (sym st.4) st.6;
        start_is = λ a e w. absurd (omega arith);
        len_is = λ a e w. ap (λ b. cond b n (m (Length a))) (eq-eqb p a (let z : suc p ≡ suc a = e in omega arith));
        done_is = λ a e w. absurd (omega arith);
        number_is = λ a e w. absurd (omega arith);
        num_is = λ a i e l w. absurd (omega arith);
      };
    }

    pub begun_kept : Kept f (update m (Length p) n) (set views id (on_stage v (Preparing q p t n 1)))
    begun_kept = kept_after f m (update m (Length p) n) views k id v (on_stage v (Preparing q p t n 1)) g' at words record {
      rely = λ j u other there x. record {
        grows = grows;
        holds = λ h. h;
        still = λ a. (refl, refl, refl);
        hand_place = hand_apart j u there x;
        window_place = window_apart j u there;
        held = λ a b e. refl;
        given = λ a b e. e;
        turned = λ e. absurd (other (let z : suc j ≡ suc id = sym e ∙ st.0.0 in let z' : j ≡ id = omega arith in z'));
        turns = λ e. e;
      };
      mine = record {
        of_object = ok.of_object;
        of_callers = ok.of_callers;
        holds = ok.holds;
        joint = ok.joint;
        notes = notes_alone g g' k.words.chain grows id (IsWhole v) (λ a. (refl, refl)) st.0.0 refl v.notes ok.notes;
        hand = hand_stays g g' k.words.chain grows k.words.homes id active v.caller v.hand (hand_apart id v at ok) (λ a b e. refl) ok.hand;
        ties = ok.ties;
        stage = (st.0, st.1, refl, st.3, st.4, refl, refl, st.5);
        window = window_fact_stays g g' k.words.chain grows k.words.homes v.window (window_apart id v at) ok.window;
        owned = ok.owned;
      };
      paid_by = refl;
      untold_by = λ a. refl;
      watch_by = λ n. refl;
      seated = λ a b j other e. e;
      turned = λ j other e. e;
      seen = ((λ e. e), inr refl);
    }

  -- one more word of the place in preparation
  module _ (d p t n w : ℕ) (is : v.stage ≡ Preparing d p t n w) where
    at_prep : StageOk g id active v.caller (Preparing d p t n w)
    at_prep = subst (StageOk g id active v.caller) is ok.stage

    abbrev more : Ghosts
    more = record g { written = suc w }

    more_grows : Grows g more
    more_grows = calm g g.log g.made g.owner g.paid g.now g.linked g.untold g.watch g.turn g.called g.shut g.prep g.plan (suc w) (le_refl _)

    pub word_kept : (m' : Memory) → Words f m' more → Kept f m' (set views id (on_stage v (Preparing d p t n (suc w))))
    word_kept m' words = kept_after f m m' views k id v (on_stage v (Preparing d p t n (suc w))) more at words record {
      rely = λ j u other there x. record {
        grows = more_grows;
        holds = λ h. h;
        still = λ a. (refl, refl, refl);
        hand_place = λ a n p e s. (e, s);
        window_place = λ a n p e s. (e, s, refl);
        held = λ a b e. refl;
        given = λ a b e. e;
        turned = λ e. absurd (other (let z : suc j ≡ suc id = sym e ∙ at_prep.0.0 in let z' : j ≡ id = omega arith in z'));
        turns = λ e. e;
      };
      mine = record {
        of_object = ok.of_object;
        of_callers = ok.of_callers;
        holds = ok.holds;
        joint = ok.joint;
        notes = notes_alone g more k.words.chain more_grows id (IsWhole v) (λ a. (refl, refl)) at_prep.0.0 refl v.notes ok.notes;
        hand = ok.hand;
        ties = ok.ties;
        stage = (at_prep.0, at_prep.1, at_prep.2, at_prep.3, at_prep.4, at_prep.5, refl, at_prep.7);
        window = window_fact_stays g more k.words.chain more_grows k.words.homes v.window (λ a n p e s. (e, s, refl)) ok.window;
        owned = ok.owned;
      };
      paid_by = refl;
      untold_by = λ a. refl;
      watch_by = λ n. refl;
      seated = λ a b j other e. e;
      turned = λ j other e. e;
      seen = ((λ e. e), inr refl);
    }

    -- the place in preparation is p, and so no other word of a segment is touched
    the_place : (a : ℕ) → g.prep ≡ suc a → p ≡ a
    the_place a e = let z : suc p ≡ suc a = sym at_prep.2 ∙ e in omega arith

    not_place : (a : ℕ) → g.prep ≢ suc a → p ≢ a
    not_place a ne e = ne (at_prep.2 ∙ ap suc e)

    len_n : g.plan.len ≡ n
    len_n = ap (λ (s : Seg). s.len) at_prep.5

    start_t : g.plan.start ≡ t
    start_t = ap (λ (s : Seg). s.start) at_prep.5

    was_written : (a : ℕ) → a < w → a < g.written
    was_written a l = subst (λ (z : ℕ). a < z) (sym at_prep.6) l

  -- by what the pass has read
  pub found_begun_kept : (p n x : ℕ) → n ≡ x → p < f.places → 2 ≤ x → x ≤ f.slots → (r : MayBegin f.first_len v p x) → Kept f (update m (Length p) x) (set views id (on_stage v (Preparing r.0 p r.1 n 1)))
  found_begun_kept p n x same near two fits r =
      let st : StageOk g id active v.caller (Found r.0 r.1 p) = subst (StageOk g id active v.caller) r.5 ok.stage in
      subst (λ (z : ℕ). Kept f (update m (Length p) x) (set views id (on_stage v (Preparing r.0 p r.1 z 1)))) (sym same)
      (begun_kept r.0 r.1 p x r.5 near two fits (next_right r.0 r.1 x r.2 (is_observed r.4) r.3 st.5 st.4 r.6 r.7 r.8 r.9 r.11))

  pub start_kept : (d p t n : ℕ) → v.stage ≡ Preparing d p t n 1 → Kept f (update m (Start p) t) (set views id (on_stage v (Preparing d p t n 2)))
  start_kept d p t n is = let o = k.words.preps in word_kept d p t n 1 is (update m (Start p) t) record {
    counts = k.words.counts;
    calls = k.words.calls;
    chain = k.words.chain;
    ranges = k.words.ranges;
    homes = k.words.homes;
    tails = k.words.tails;
    links = k.words.links;
    nexts = k.words.nexts;
    sizes = k.words.sizes;
    places = λ a b h i. let x = k.words.places a b h i in (ap (λ z. cond z t (m (Start a))) (ne_eqb p a (not_place d p t n 1 is a i)) ∙ x.0, x.1, x.2);
    slots = k.words.slots;
    strays = k.words.strays;
    dones = k.words.dones;
    observers = k.words.observers;
    bars = k.words.bars;
    turns = k.words.turns;
    preps = record {
      inside = o.inside;
      lengths = o.lengths;
      apart = o.apart;
      no_take = o.no_take;
      full = o.full;
      start_is = λ a e l. ap (λ z. cond z t (m (Start a))) (eq-eqb p a (the_place d p t n 1 is a e)) ∙ sym (start_t d p t n 1 is);
      len_is = λ a e l. o.len_is a e (was_written d p t n 1 is 0 (omega arith));
      done_is = λ a e l. absurd (omega arith);
      number_is = λ a e l. absurd (omega arith);
      num_is = λ a i e l r. absurd (omega arith);
    };
  }

  pub done_word_kept : (d p t n : ℕ) → v.stage ≡ Preparing d p t n 2 → Kept f (update m (Done p) 0) (set views id (on_stage v (Preparing d p t n 3)))
  done_word_kept d p t n is = let o = k.words.preps in word_kept d p t n 2 is (update m (Done p) 0) record {
    counts = k.words.counts;
    calls = k.words.calls;
    chain = k.words.chain;
    ranges = k.words.ranges;
    homes = k.words.homes;
    tails = k.words.tails;
    links = k.words.links;
    places = k.words.places;
    sizes = k.words.sizes;
    nexts = k.words.nexts;
    slots = k.words.slots;
    strays = k.words.strays;
    dones = λ a b h i. ap (λ z. cond z 0 (m (Done a)) + g.untold a) (ne_eqb p a (not_place d p t n 2 is a i)) ∙ k.words.dones a b h i;
    observers = k.words.observers;
    bars = k.words.bars;
    turns = k.words.turns;
    preps = record {
      inside = o.inside;
      lengths = o.lengths;
      apart = o.apart;
      no_take = o.no_take;
      full = o.full;
      start_is = λ a e l. o.start_is a e (was_written d p t n 2 is 1 (omega arith));
      len_is = λ a e l. o.len_is a e (was_written d p t n 2 is 0 (omega arith));
      done_is = λ a e l. ap (λ z. cond z 0 (m (Done a))) (eq-eqb p a (the_place d p t n 2 is a e));
      number_is = λ a e l. absurd (omega arith);
      num_is = λ a i e l r. absurd (omega arith);
    };
  }

  pub segment_word_kept : (d p t n c : ℕ) → v.stage ≡ Preparing d p t n 3 → suc g.last ≡ c → Kept f (update m (Segment p) c) (set views id (on_stage v (Preparing d p t n 4)))
  segment_word_kept d p t n c is at_c = let o = k.words.preps in word_kept d p t n 3 is (update m (Segment p) c) record {
    counts = k.words.counts;
    calls = k.words.calls;
    chain = k.words.chain;
    ranges = k.words.ranges;
    homes = k.words.homes;
    tails = k.words.tails;
    links = k.words.links;
    sizes = k.words.sizes;
    nexts = k.words.nexts;
    places = λ a b h i. let x = k.words.places a b h i in (x.0, x.1, ap (λ z. cond z c (m (Segment a))) (ne_eqb p a (not_place d p t n 3 is a i)) ∙ x.2);
    slots = k.words.slots;
    strays = k.words.strays;
    dones = k.words.dones;
    observers = k.words.observers;
    bars = k.words.bars;
    turns = k.words.turns;
    preps = record {
      inside = o.inside;
      lengths = o.lengths;
      apart = o.apart;
      no_take = o.no_take;
      full = o.full;
      start_is = λ a e l. o.start_is a e (was_written d p t n 3 is 1 (omega arith));
      len_is = λ a e l. o.len_is a e (was_written d p t n 3 is 0 (omega arith));
      done_is = λ a e l. o.done_is a e (was_written d p t n 3 is 2 (omega arith));
      number_is = λ a e l. ap (λ z. cond z c (m (Segment a))) (eq-eqb p a (the_place d p t n 3 is a e)) ∙ sym at_c;
      num_is = λ a i e l r. absurd (omega arith);
    };
  }

  pub number_word_kept : (d p t n i x : ℕ) → v.stage ≡ Preparing d p t n (4 + i) → t ≤ x → x < t + n → x % n ≡ i → Kept f (update m (Number p i) (2 * x)) (set views id (on_stage v (Preparing d p t n (suc (4 + i)))))
  number_word_kept d p t n i x is lo hi lies = let o = k.words.preps in word_kept d p t n (4 + i) is (update m (Number p i) (2 * x)) record {
    counts = k.words.counts;
    calls = k.words.calls;
    chain = k.words.chain;
    ranges = k.words.ranges;
    homes = k.words.homes;
    tails = k.words.tails;
    links = k.words.links;
    places = k.words.places;
    sizes = k.words.sizes;
    nexts = k.words.nexts;
    slots = λ a b j h r near. subst (λ (z : ℕ). SlotOk (g.segs b).len g.values g.taken (g.segs b).start (end_of g.segs g.last g.put b) z (m (Item a j)) j (g.cells a j))
        (sym (at_else (λ a b. m (Number a b)) p i a j (2 * x) (inl (not_place d p t n (4 + i) is a r)))) (k.words.slots a b j h r near);
    strays = strays_put (λ a b. m (Number a b)) g.taken g.segs g.home g.prep p i (2 * x) (λ z e. absurd (omega arith)) k.words.strays;
    dones = k.words.dones;
    observers = k.words.observers;
    bars = k.words.bars;
    turns = k.words.turns;
    preps = record {
      inside = o.inside;
      lengths = o.lengths;
      apart = o.apart;
      no_take = o.no_take;
      full = o.full;
      start_is = λ a e l. o.start_is a e (was_written d p t n (4 + i) is 1 (omega arith));
      len_is = λ a e l. o.len_is a e (was_written d p t n (4 + i) is 0 (omega arith));
      done_is = λ a e l. o.done_is a e (was_written d p t n (4 + i) is 2 (omega arith));
      number_is = λ a e l. o.number_is a e (was_written d p t n (4 + i) is 3 (omega arith));
      num_is = λ a j e l r. ⊎_elim
          (λ (y : i ≡ j). let s = the_place d p t n (4 + i) is a e in let len = len_n d p t n (4 + i) is in let start : g.plan.start ≡ t = ap (λ (z : Seg). z.start) (at_prep d p t n (4 + i) is).5 in (
            x,
            ap (λ (z : ℕ × ℕ). put_at (λ a b. m (Number a b)) p i (2 * x) z.0 z.1) (λ d. (sym s d, sym y d)) ∙ at_here (λ a b. m (Number a b)) p i (2 * x),
            (let z : g.plan.start ≤ x = omega arith in z),
            (let z : x < g.plan.start + g.plan.len = omega arith in z),
            ap (λ z. x % z) len ∙ (lies ∙ y),
          ))
          (λ (ne : i ≢ j). let h = o.num_is a j e l (was_written d p t n (4 + i) is (4 + j) (let r' : 4 + j < suc (4 + i) = r in omega arith)) in
          (h.0, at_else (λ a b. m (Number a b)) p i a j (2 * x) (inr ne) ∙ h.1, h.2, h.3, h.4))
          (cases_eq i j);
    };
  }

  -- the segment word that was noted of the current place is the number of the last segment
  pub last_number : (d p t n w c : ℕ) (o : OpenTail) → v.stage ≡ Preparing d p t n w → v.notes.tail ≡ Some o → o.place ≡ d → o.position ≡ t → o.number ≡ Some c → suc g.last ≡ c + 1
  last_number d p t n w c o is noted at_d at_t number =
      let st = at_prep d p t n w is in let s : TailSeen g (IsWhole v) o = subst (TailFact g (IsWhole v)) noted ok.notes.tail in
      let seg : s.segment ≡ g.last = not_stale g.segs g.low g.last g.taken g.put k.words.chain o.place o.position s.segment s.there (st.7 ∙ sym at_d) (st.4 ∙ sym at_t) in
      let same : c ≡ s.segment = ⊎_elim (λ (l : o.position < g.put). absurd (let a = st.4 in omega arith)) (λ (e : c ≡ s.segment). e) (s.numbered c number) in omega arith

  pub numbered_kept : (p x : ℕ) → (r : MayNumber v p x) → Kept f (update m (Segment p) x) (set views id (on_stage v (Preparing r.0 p r.1 r.2 4)))
  numbered_kept p x r =
      let next : suc g.last ≡ r.3 + 1 = last_number r.0 p r.1 r.2 3 r.3 r.4 r.5 r.6 r.7 r.8 r.9 in
      let few = (few_put f m g k.words).0 in let low = numbers_low g.segs g.low g.last g.taken g.put k.words.chain g.last (le_refl _) in let ends = k.words.chain.ends in
      segment_word_kept r.0 p r.1 r.2 x r.5 (next ∙ sym (r.10 ∙ mod-eq_of_lt (let z : r.3 + 1 < 2 ^ 64 = omega arith in z)))

  pub shown_kept : (p i x : ℕ) → (r : MayShow v p i x) → Kept f (update m (Number p i) x) (set views id (on_stage v (Preparing r.0 p r.1 r.2 (suc (4 + i)))))
  shown_kept p i x r = subst (λ z. Kept f (update m (Number p i) z) (set views id (on_stage v (Preparing r.0 p r.1 r.2 (suc (4 + i)))))) (sym r.8) (number_word_kept r.0 p r.1 r.2 i r.3 r.4 r.5 r.6 r.7)
