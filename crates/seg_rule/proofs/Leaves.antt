-- After a head take: the load of observers, which gives leave or not, the load of the length, the release, and the count of takes.
use Rattle.std.proofs.Common.{◌≡◌, ℕ, suc, ◌+◌, ◌-◌, ◌*◌, ◌<◌, ◌≤◌, ◌≢◌, inl, inr, ⊎_elim, cond, true, List, set, sym, refl, ap, ◌∙◌, subst, arith, le_refl, eq-eqb, ne_eqb}
use Rattle.std.proofs.lemmas.Bool.{cases_eq}
use native.Mathlib.Nat.{add-mod_right}
use mathlib.Core.Option.{some}
use lib.ListN.{get_elem?}
use Rattle.passes.specs.Numbers.{HasNumber}
use Rattle.seg_rule.specs.declared.word.QueueWord.TheVariants.{Start, Length, Observers, Done, Segment, Number, Item}
use Rattle.seg_rule.specs.declared.view.View.{View}
use Rattle.seg_rule.specs.declared.view.Leave.{Leave}
use Rattle.seg_rule.specs.declared.view.Leave.TheVariants.{Unread, Granted, Measured, Refused, Released}
use Rattle.seg_rule.specs.declared.view.Hand.{Hand}
use Rattle.seg_rule.specs.declared.view.Hand.TheVariants.{Nothing, Taking}
use Rattle.seg_rule.specs.Words.{Memory, update}
use Rattle.seg_rule.specs.Chain.{end_of}
use Rattle.seg_rule.specs.Slots.{free, reading, left, Cell, holder, SlotOk}
use Rattle.seg_rule.specs.Places.{put_at, put_in}
use Rattle.seg_rule.specs.declared.form.Form.{Form}
use Rattle.seg_rule.specs.Rule.{Ghosts, IsWhole, Shows, HandOk, InHand, LeaveHas, ViewOk, watched, in_range, flag, Kept, takes_at, takes_in, watches}
use Rattle.seg_rule.specs.Rely.{StaysIn, Grows, SameTurn, same_chain}
use Rattle.seg_rule.specs.Steps.{in_hand}
use Rattle.seg_rule.proofs.Places.{at_here, at_else}
use Rattle.seg_rule.proofs.Stays.{notes_stay, window_fact_stays, stage_stays}
use Rattle.seg_rule.proofs.Frames.{kept_after, free_loose, slots_change, strays_put}
use Rattle.seg_rule.proofs.Sums.{total_part}
use Rattle.seg_rule.proofs.Preps.{prep_numbers, prep_else}
use Rattle.seg_rule.proofs.Items.{cell_kept}
use Rattle.seg_rule.proofs.Looks.{own_kept}

module _ (f : Form) (m : Memory) (views : List View) (id : ℕ) (v : View) (k : Kept f m views) (at : get_elem? views id ≡ some v) where
  abbrev g : Ghosts
  g = k.g

  abbrev ok : ViewOk f g id v
  ok = k.seats.each id v at

  abbrev active : Type 0
  active = HasNumber v.held v.caller

  taking : (p q i : ℕ) (l : Leave) → v.hand ≡ Taking p q i l → HandOk g id active v.caller (Taking p q i l)
  taking p q i l is = subst (HandOk g id active v.caller) is ok.hand

  -- the load of observers that reads 0
  module _ (p q i n : ℕ) (is : v.hand ≡ Taking p q i Unread) (s : Shows g q i n) (below : p < g.taken) (cell : g.cells q i ≡ (p, reading id)) (act : active) (unwatched : g.watch n ≡ 0) where
    abbrev bar' : ℕ → ℕ
    bar' = put_in g.bar n g.taken

    abbrev g' : Ghosts
    g' = record g { bar = bar' }

    bar_here : bar' n ≡ g.taken
    bar_here = ap (λ b. cond b g.taken (g.bar n)) (eq-eqb n n refl)

    bar_else : (a : ℕ) → n ≢ a → bar' a ≡ g.bar a
    bar_else a ne = ap (λ b. cond b g.taken (g.bar a)) (ne_eqb n a ne)

    grows : Grows g g'
    grows = record {
      values = λ p x e. e;
      putters = λ p x e. e;
      put_up = le_refl _;
      taken_up = le_refl _;
      segs = λ n l. refl;
      last_up = le_refl _;
      linked_up = le_refl _;
      opens = λ l. let l' : suc g.last ≤ g.last = l in absurd (omega arith);
      bar_up = λ a. ⊎_elim (λ (e : n ≡ a). subst (λ (z : ℕ). g.bar a ≤ z) (sym (ap (λ b. cond b g.taken (g.bar a)) (eq-eqb n a e))) (k.words.bars a)) (λ (ne : n ≢ a). subst (λ (z : ℕ). g.bar a ≤ z) (sym (bar_else a ne)) (le_refl (g.bar a))) (cases_eq n a);
      free_stays = λ a b e. inr (inl e);
      full_stays = λ a b n l l' e s z. inr (l, z);
      kept = λ a b n e p l s. (refl, le_refl _);
    }

    -- no window has the segment
    not_watched : (j : ℕ) (u : View) → get_elem? views j ≡ some u → (a : ℕ) → in_range a u.window ≡ true → bar' a ≡ g.bar a
    not_watched j u there a r = ⊎_elim (λ (e : n ≡ a). absurd (let t = total_part (watches n) views j u there in let w = k.seats.watch_is n in let one : watches n u ≡ 1 = ap (λ (z : ℕ). flag (in_range z u.window)) e ∙ ap flag r in omega arith)) (bar_else a) (cases_eq n a)

    pub leave_kept : Kept f m (set views id (in_hand v (Taking p q i Granted)))
    leave_kept = kept_after f m m views k id v (in_hand v (Taking p q i Granted)) g' at
        record {
          counts = k.words.counts;
          calls = k.words.calls;
          chain = k.words.chain;
          ranges = k.words.ranges;
          homes = k.words.homes;
          tails = k.words.tails;
          links = k.words.links;
          places = k.words.places;
          sizes = k.words.sizes;
          nexts = k.words.nexts;
          slots = k.words.slots;
          strays = k.words.strays;
          dones = k.words.dones;
          observers = k.words.observers;
          bars = λ a. ⊎_elim (λ (e : n ≡ a). subst (λ (z : ℕ). z ≤ g.taken) (sym (ap (λ b. cond b g.taken (g.bar a)) (eq-eqb n a e))) (le_refl g.taken)) (λ (ne : n ≢ a). subst (λ (z : ℕ). z ≤ g.taken) (sym (bar_else a ne)) (k.words.bars a)) (cases_eq n a);
          turns = k.words.turns;
          preps = k.words.preps;
        }
        record {
          rely = λ j u other there x. record {
            grows = grows;
            holds = λ h. h;
            still = λ a. (refl, refl, refl);
            hand_place = λ a b p e s. (e, s);
            window_place = λ a b r e s. (e, s, not_watched j u there b r);
            held = λ a b e. refl;
            given = λ a b e. e;
            turned = λ e. record { turn = refl; called = refl; shut = refl; prep = refl; plan = refl; written = refl; now = refl; linked = refl; watch = λ n. le_refl _; untold = λ q o. le_refl _; last = refl; low = refl; home = λ q. refl; put = λ s. refl };
            turns = λ e. e;
          };
          mine = record {
            of_object = ok.of_object;
            of_callers = ok.of_callers;
            holds = ok.holds;
            joint = ok.joint;
            notes = notes_stay g g' k.words.chain grows id (IsWhole v) (λ a. (refl, refl)) k.words.homes (λ e. e) (λ e. record { now = refl; last = refl; low = refl; prep = refl; home = λ q. refl; untold = λ q o. le_refl _ }) (λ a. refl) v.notes ok.notes;
            hand = (act, (n, s), below, (cell, λ a e. let same : n ≡ a = (let z : suc n ≡ suc a = sym s.0 ∙ e in omega arith) in subst (λ (z : ℕ). p < bar' z) same (subst (λ (z : ℕ). p < z) (sym bar_here) below)));
            ties = λ a b e. let o = subst (λ (z : Hand). InHand z a b) is (ok.ties a b e) in (o.0, o.1, tt);
            stage = ok.stage;
            window = window_fact_stays g g' k.words.chain grows k.words.homes v.window (λ a b r e s. (e, s, not_watched id v at b r)) ok.window;
            owned = ok.owned;
          };
          paid_by = refl;
          untold_by = λ a. ap (λ (z : ℕ). g.untold a + z) (ap (takes_at a) is);
          watch_by = λ n. refl;
          seated = λ a b j other e. e;
          turned = λ j other e. e;
          seen = ((λ e. e), inr refl);
        }

  place_near : (q n : ℕ) → g.home q ≡ suc n → q < f.places
  place_near q n e = let h = k.words.homes.there q n e in subst (λ (z : ℕ). z < f.places) h.1 (k.words.ranges.placed n h.0)

  pub leave_given : (p q i : ℕ) → v.hand ≡ Taking p q i Unread → m (Observers q) ≡ 0 → Kept f m (set views id (in_hand v (Taking p q i Granted)))
  leave_given p q i is now = let h = taking p q i Unread is in let n : ℕ = h.1.0 in
      leave_kept p q i n is h.1.1 h.2 h.3 h.0 (sym (ap (watched g.watch) h.1.1.0) ∙ (sym (k.words.observers q (place_near q n h.1.1.0)) ∙ now))

  -- the load of observers that reads another number: the slot is left to the snapshots
  pub leave_refused : (p q i : ℕ) → v.hand ≡ Taking p q i Unread → Kept f m (set views id (in_hand v (Taking p q i Refused)))
  leave_refused p q i is = let h = taking p q i Unread is in let s = h.1 in let c : Cell = (p, left) in
      cell_kept f m views id v k at q i c (Taking p q i Refused) (ap (λ (z : Cell). holder z.1) h.3) (free_loose id c refl) (λ n a b. subst (λ (z : Cell). StaysIn z c) (sym h.3) (refl, le_refl _)) m
      record {
        counts = k.words.counts;
        calls = k.words.calls;
        chain = k.words.chain;
        ranges = k.words.ranges;
        homes = k.words.homes;
        tails = k.words.tails;
        links = k.words.links;
        places = k.words.places;
        sizes = k.words.sizes;
        nexts = k.words.nexts;
        slots = slots_change (λ a b. m (Number a b)) (λ a b. m (Number a b)) (λ a b. m (Item a b)) (λ a b. m (Item a b)) g.values g.taken g.taken g.put g.segs g.last g.home g.cells g.prep q i c (le_refl _)
            (λ a b n. (refl, refl)) (λ a b n z e o r s t u. u)
            (λ n a b l. let o = subst (SlotOk (g.segs n).len g.values g.taken (g.segs n).start (end_of g.segs g.last g.put n) (m (Number q i)) (m (Item q i)) i) h.3 (k.words.slots q n i a b l) in
            record { lies = o.lies; begins = o.begins; freed = o.freed; waits = o.waits; shows = o.shows; phase = o.phase })
            k.words.slots;
        strays = k.words.strays;
        dones = k.words.dones;
        observers = k.words.observers;
        bars = k.words.bars;
        turns = k.words.turns;
        preps = k.words.preps;
      }
      (h.0, s, h.2, tt)
      (λ a b e n. let o = subst (λ (z : Hand). InHand z a b) is e in absurd (⊎_elim (λ (y : q ≢ a). y o.0) (λ (y : i ≢ b). y o.1) n)) (λ e. absurd (let z : 0 ≡ suc id = e in omega arith)) (λ a. ap (takes_at a) is)

  -- the load of the length, which the take pins
  pub sized_kept : (p q i n : ℕ) → v.hand ≡ Taking p q i Granted → m (Length q) ≡ n → Kept f m (set views id (in_hand v (Taking p q i (Measured n))))
  sized_kept p q i n is now = let h = taking p q i Granted is in let s = h.1 in own_kept f m views id v k at (in_hand v (Taking p q i (Measured n)))
      record {
        of_object = ok.of_object;
        of_callers = ok.of_callers;
        holds = ok.holds;
        joint = ok.joint;
        notes = ok.notes;
        stage = ok.stage;
        window = ok.window;
        owned = ok.owned;
        hand = (h.0, h.1, h.2, (h.3.0, λ a e. (h.3.1 a e, sym now ∙ (k.words.places q a e s.1.1).1)));
        ties = λ a b e. let o = subst (λ (z : Hand). InHand z a b) is (ok.ties a b e) in (o.0, o.1, tt);
      }
      refl (λ a. ap (takes_at a) is) (λ n. refl) refl

  -- release
  pub released_kept : (p q i n : ℕ) → v.hand ≡ Taking p q i (Measured n) → Kept f (update m (Number q i) (2 * (p + n))) (set views id (in_hand v (Taking p q i Released)))
  released_kept p q i n is =
      let h = taking p q i (Measured n) is in let s = h.1 in let c : Cell = (p + n, free) in let x' : ℕ = 2 * (p + n) in let told = h.3.1 s.0 s.1.0 in let num' : ℕ → ℕ → ℕ = put_at (λ a b. m (Number a b)) q i x' in
      cell_kept f m views id v k at q i c (Taking p q i Released) (ap (λ (z : Cell). holder z.1) h.3.0) (free_loose id c refl)
      (λ a e b. absurd (let z = (h.3.1 a e).0 in let at_p : (g.cells q i).0 ≡ p = ap (λ (y : Cell). y.0) h.3.0 in omega arith)) (update m (Number q i) x')
      record {
        counts = k.words.counts;
        calls = k.words.calls;
        chain = k.words.chain;
        ranges = k.words.ranges;
        homes = k.words.homes;
        tails = k.words.tails;
        links = k.words.links;
        places = k.words.places;
        sizes = k.words.sizes;
        nexts = k.words.nexts;
        slots = slots_change (λ a b. m (Number a b)) num' (λ a b. m (Item a b)) (λ a b. m (Item a b)) g.values g.taken g.taken g.put g.segs g.last g.home g.cells g.prep q i c (le_refl _)
            (λ a b y. (at_else (λ a b. m (Number a b)) q i a b x' y, refl)) (λ a b n z e o r s t u. u)
            (λ a e b l. let o = subst (SlotOk (g.segs a).len g.values g.taken (g.segs a).start (end_of g.segs g.last g.put a) (m (Number q i)) (m (Item q i)) i) h.3.0 (k.words.slots q a i e b l) in let len : n ≡ (g.segs a).len = (h.3.1 a e).1 in
            subst (λ (z : ℕ). SlotOk z g.values g.taken (g.segs a).start (end_of g.segs g.last g.put a) (num' q i) (m (Item q i)) i c) len
            (let o' : SlotOk n g.values g.taken (g.segs a).start (end_of g.segs g.last g.put a) (m (Number q i)) (m (Item q i)) i (p, reading id) = subst (λ (z : ℕ). SlotOk z g.values g.taken (g.segs a).start (end_of g.segs g.last g.put a) (m (Number q i)) (m (Item q i)) i (p, reading id)) (sym len) o in
            record {
              lies = add-mod_right p n ∙ o'.lies;
              begins = (let y = o'.begins in let z : (g.segs a).start ≤ p + n = omega arith in z);
              freed = inr (let y = h.2 in let z : p + n < g.taken + n = omega arith in z);
              waits = (let y = o'.waits in let z : end_of g.segs g.last g.put a ≤ p + n + n = omega arith in z);
              shows = at_here (λ a b. m (Number a b)) q i x' ∙ (let z : 2 * (p + n) ≡ 2 * (p + n) + 0 = omega arith in z);
              phase = o'.waits;
            }))
            k.words.slots;
        strays = strays_put (λ a b. m (Number a b)) g.taken g.segs g.home g.prep q i x' (λ z e. absurd (omega arith)) k.words.strays;
        dones = k.words.dones;
        observers = k.words.observers;
        bars = k.words.bars;
        turns = k.words.turns;
        preps = prep_numbers (λ a. m (Start a)) (λ a. m (Length a)) (λ a. m (Done a)) (λ a. m (Segment a)) (λ a b. m (Number a b)) num' f g.segs g.low g.last g.put g.home g.untold g.watch g.prep g.plan g.written
            (λ a b e. at_else (λ a b. m (Number a b)) q i a b x' (inl (λ z. s.1.1 (e ∙ ap suc (sym z))))) k.words.preps;
      }
      (h.0, s, h.2, tt)
      (λ a b e y. let o = subst (λ (z : Hand). InHand z a b) is e in absurd (⊎_elim (λ (y : q ≢ a). y o.0) (λ (y : i ≢ b). y o.1) y)) (λ e. absurd (let z : 0 ≡ suc id = e in omega arith)) (λ a. ap (takes_at a) is)

  -- done add, of a take that has no slot
  pub done_kept : (p q i : ℕ) (l : Leave) → v.hand ≡ Taking p q i l → (LeaveHas l → ⊥) → Kept f (update m (Done q) (m (Done q) + 1)) (set views id (in_hand v Nothing))
  done_kept p q i l is none =
      let h = taking p q i l is in let s = h.1 in let done' : ℕ → ℕ = put_in (λ a. m (Done a)) q (m (Done q) + 1) in let untold' : ℕ → ℕ = put_in g.untold q (g.untold q - 1) in
      let own : takes_in q v ≡ 1 = ap (takes_at q) is ∙ ap flag (eq-eqb q q refl) in
      let some_take : 1 ≤ g.untold q = (let t = total_part (takes_in q) views id v at in let y = k.seats.untold_is q in omega arith) in
      let g' : Ghosts = record g { untold = untold' } in let grows = done_grows untold' in
      let less : (a : ℕ) → untold' a ≤ g.untold a = (λ a. ⊎_elim (λ (e : q ≡ a). subst (λ (z : ℕ). z ≤ g.untold a) (sym (ap (λ b. cond b (g.untold q - 1) (g.untold a)) (eq-eqb q a e))) (subst (λ (z : ℕ). g.untold q - 1 ≤ g.untold z) e (omega arith))) (λ (ne : q ≢ a). subst (λ (z : ℕ). z ≤ g.untold a) (sym (ap (λ b. cond b (g.untold q - 1) (g.untold a)) (ne_eqb q a ne))) (le_refl (g.untold a))) (cases_eq q a)) in
      let same : SameTurn g g' = record { turn = refl; called = refl; shut = refl; prep = refl; plan = refl; written = refl; now = refl; linked = refl; watch = λ n. le_refl _; untold = λ a o. less a; last = refl; low = refl; home = λ q. refl; put = λ s. refl } in
      kept_after f m (update m (Done q) (m (Done q) + 1)) views k id v (in_hand v Nothing) g' at
      record {
        counts = k.words.counts;
        calls = k.words.calls;
        chain = k.words.chain;
        ranges = k.words.ranges;
        homes = k.words.homes;
        tails = k.words.tails;
        links = k.words.links;
        places = k.words.places;
        sizes = k.words.sizes;
        nexts = k.words.nexts;
        slots = k.words.slots;
        strays = k.words.strays;
        dones = λ a b e o. ⊎_elim
            (λ (z : q ≡ a). let d : done' a ≡ m (Done a) + 1 = ap (λ y. cond y (m (Done q) + 1) (m (Done a))) (eq-eqb q a z) ∙ ap (λ y. m (Done y) + 1) z in let u : untold' a ≡ g.untold a - 1 = ap (λ y. cond y (g.untold q - 1) (g.untold a)) (eq-eqb q a z) ∙ ap (λ y. g.untold y - 1) z in
            let one : 1 ≤ g.untold a = subst (λ y. 1 ≤ g.untold y) z some_take in (let y : done' a + untold' a ≡ m (Done a) + g.untold a = omega arith in y) ∙ k.words.dones a b e o)
            (λ (ne : q ≢ a). (λ j. ap (λ y. cond y (m (Done q) + 1) (m (Done a))) (ne_eqb q a ne) j + ap (λ y. cond y (g.untold q - 1) (g.untold a)) (ne_eqb q a ne) j) ∙ k.words.dones a b e o)
            (cases_eq q a);
        observers = k.words.observers;
        bars = k.words.bars;
        turns = k.words.turns;
        preps = prep_else (λ a. m (Start a)) (λ a. m (Start a)) (λ a. m (Length a)) (λ a. m (Length a)) (λ a. m (Done a)) done' (λ a. m (Segment a)) (λ a. m (Segment a)) (λ a b. m (Number a b)) (λ a b. m (Number a b)) f g.segs g.low g.last g.put g.home g.untold untold' g.watch g.prep g.plan g.written
            (λ a e. let ne : q ≢ a = (λ z. s.1.1 (e ∙ ap suc (sym z))) in (refl, refl, ap (λ y. cond y (m (Done q) + 1) (m (Done a))) (ne_eqb q a ne), refl, (λ b. refl), ap (λ y. cond y (g.untold q - 1) (g.untold a)) (ne_eqb q a ne))) k.words.preps;
      }
      record {
        rely = λ j u other there x. record {
          grows = grows;
          holds = λ h. h;
          still = λ a. (refl, refl, refl);
          hand_place = λ a b p e s. (e, s);
          window_place = λ a b r e s. (e, s, refl);
          held = λ a b e. refl;
          given = λ a b e. e;
          turned = λ e. same;
          turns = λ e. e;
        };
        mine = record {
          of_object = ok.of_object;
          of_callers = ok.of_callers;
          holds = ok.holds;
          joint = ok.joint;
          notes = notes_stay g g' k.words.chain grows id (IsWhole v) (λ a. (refl, refl)) k.words.homes (λ e. e) (λ e. same_chain g g' same) (λ a. refl) v.notes ok.notes;
          hand = tt;
          ties = λ a b e. let o = subst (λ (z : Hand). InHand z a b) is (ok.ties a b e) in none o.2;
          stage = stage_stays g g' k.words.chain grows id active v.caller v.stage (λ e. same) (λ e. e) ok.stage;
          window = window_fact_stays g g' k.words.chain grows k.words.homes v.window (λ a b r e s. (e, s, refl)) ok.window;
          owned = ok.owned;
        };
        paid_by = refl;
        untold_by = λ a. ⊎_elim
            (λ (z : q ≡ a). let t : takes_in a v ≡ 1 = ap (takes_at a) is ∙ ap flag (eq-eqb q a z) in let u : untold' a ≡ g.untold a - 1 = ap (λ y. cond y (g.untold q - 1) (g.untold a)) (eq-eqb q a z) ∙ ap (λ y. g.untold y - 1) z in let one : 1 ≤ g.untold a = subst (λ y. 1 ≤ g.untold y) z some_take in
            (let y : untold' a + takes_in a v ≡ g.untold a + 0 = omega arith in y))
            (λ (ne : q ≢ a). let t : takes_in a v ≡ 0 = ap (takes_at a) is ∙ ap flag (ne_eqb q a ne) in let u : untold' a ≡ g.untold a = ap (λ y. cond y (g.untold q - 1) (g.untold a)) (ne_eqb q a ne) in (let y : untold' a + takes_in a v ≡ g.untold a + 0 = omega arith in y))
            (cases_eq q a);
        watch_by = λ n. refl;
        seated = λ a b j other e. e;
        turned = λ j other e. e;
        seen = ((λ e. e), inr refl);
      }
    where
      done_grows : (untold' : ℕ → ℕ) → Grows g (record g { untold = untold' })
      done_grows untold' = record {
        values = λ p x e. e;
        putters = λ p x e. e;
        put_up = le_refl _;
        taken_up = le_refl _;
        segs = λ n l. refl;
        last_up = le_refl _;
        linked_up = le_refl _;
        opens = λ l. let l' : suc g.last ≤ g.last = l in absurd (omega arith);
        bar_up = λ n. le_refl _;
        free_stays = λ a b e. inr (inl e);
        full_stays = λ a b n l l' e s z. inr (l, z);
        kept = λ a b n e p l s. (refl, le_refl _);
      }
