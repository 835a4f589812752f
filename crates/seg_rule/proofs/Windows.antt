-- Snapshots: observe add, head look, observe end.
use Rattle.std.proofs.Common.{◌≡◌, ℕ, zero, suc, ◌+◌, ◌-◌, ◌%◌, ◌<◌, ◌≤◌, ◌≢◌, inr, ⊎_elim, ltb, leb, cond, Bool, true, false, true≢false, ◌&&◌, List, [], ◌∷◌, ◌++◌, set, sym, refl, ap, ◌∙◌, subst, arith, le_trans, le_refl, eq-eqb, ne_eqb, mod-lt, drop, map}
use Rattle.std.proofs.lemmas.Bool.{cases_lt, cases_eq, lt-ltb, le-ltb}
use mathlib.Core.Option.{some}
use lib.ListN.{get_elem?}
use Rattle.std.specs.Prelude.{Option, Some, None, IfSome}
use Rattle.ho_base.specs.Marks.{number_of}
use Rattle.ho_model.specs.declared.marks.EntryMark.{EntryMark}
use Rattle.passes.specs.Numbers.{HasNumber}
use Rattle.seg_rule.specs.declared.word.QueueWord.TheVariants.{Observers, Start, Length, Done, Segment, Number, Item}
use Rattle.seg_rule.specs.declared.view.View.{View}
use Rattle.seg_rule.specs.declared.view.Window.{Window}
use Rattle.seg_rule.specs.declared.view.Stage.TheVariants.{Closed, Observing}
use Rattle.seg_rule.specs.Words.{Memory, update}
use Rattle.seg_rule.specs.Chain.{end_of}
use Rattle.seg_rule.specs.Places.{put_in}
use Rattle.seg_rule.specs.declared.form.Form.{Form}
use Rattle.seg_rule.specs.Snapshots.{window_over, observing, left_from}
use Rattle.seg_rule.specs.Rule.{Ghosts, IsWhole, NextAt, StageOk, WindowOk, WindowFact, WindowOwned, ViewOk, Kept, watched, watches, in_range, flag}
use Rattle.seg_rule.specs.Rely.{Grows, SameTurn}
use Rattle.seg_rule.specs.Steps.{blank, no_scan, count_made, MayCount}
use Rattle.seg_rule.proofs.Chains.{in_chain}
use Rattle.seg_rule.proofs.Slots.{slot_position}
use Rattle.seg_rule.proofs.Spans.{range_is, range_told, same_flag, false_flag}
use Rattle.seg_rule.proofs.Snapshots.{one_left, more_left}
use Rattle.seg_rule.proofs.Stays.{notes_stay, notes_alone, stage_stays, window_fact_stays, owned_by}
use Rattle.seg_rule.proofs.Frames.{kept_after}
use Rattle.seg_rule.proofs.Sums.{total_part}
use Rattle.seg_rule.proofs.Preps.{no_prep, prep_watch}
use Rattle.seg_rule.proofs.Calm.{calm}
use Rattle.seg_rule.proofs.Object.{snap_next}
use Rattle.seg_rule.proofs.Looks.{entry_kept}
use Rattle.ho_model.specs.declared.marks.CallMark.TheVariants.{Snap}
use Rattle.ho_model.specs.declared.marks.ReplyMark.TheVariants.{Numbers}
use Rattle.ho_model.specs.Entries.{entry}

module _ (f : Form) (m : Memory) (views : List View) (id : ℕ) (v : View) (k : Kept f m views) (at : get_elem? views id ≡ some v) where
  abbrev g : Ghosts
  g = k.g

  abbrev ok : ViewOk f g id v
  ok = k.seats.each id v at

  abbrev active : Type 0
  active = HasNumber v.held v.caller

  -- what is known of each segment of a window
  abbrev Watched : ℕ → Type 0
  Watched n = (n ≤ g.last) × (g.home ((g.segs n).place) ≡ suc n) × (g.prep ≢ suc ((g.segs n).place)) × (n ≤ g.linked)

  -- a window that has the segments from b up to e, or none yet, gets the segment e too, the next of the chain
  module _ (q t b e p₀ : ℕ) (ob : StageOk g id active v.caller (Observing q t b e ((g.segs e).place))) (told : (n : ℕ) → in_range n v.window ≡ true → (b ≤ n) × (n < e)) (has : (n : ℕ) → b ≤ n → n < e → in_range n v.window ≡ true)
      (was : (n : ℕ) → in_range n v.window ≡ true → Watched n) (first_is : (g.segs b).place ≡ p₀) where
    mine : g.turn ≡ suc id
    mine = ob.0.0

    idle : g.prep ≡ 0
    idle = ob.2

    settled : g.now ≡ g.last
    settled = ob.3

    low : g.low ≤ e
    low = let x = ob.6 in let y = ob.7 in omega arith

    high : e ≤ g.last
    high = ob.8

    order : b ≤ e
    order = ob.7

    p : ℕ
    p = (g.segs e).place

    abbrev add_watch : ℕ → ℕ
    add_watch = put_in g.watch e (suc (g.watch e))

    abbrev g' : Ghosts
    g' = record g { watch = add_watch }

    grows : Grows g g'
    grows = calm g g.log g.made g.owner g.paid g.now g.linked g.untold add_watch g.turn g.called g.shut g.prep g.plan g.written (le_refl _)

    home_e : g.home ((g.segs e).place) ≡ suc e
    home_e = k.words.homes.chain e low high

    watch_here : add_watch e ≡ suc (g.watch e)
    watch_here = ap (λ z. cond z (suc (g.watch e)) (g.watch e)) (eq-eqb e e refl)

    watch_else : (n : ℕ) → e ≢ n → add_watch n ≡ g.watch n
    watch_else n ne = ap (λ z. cond z (suc (g.watch e)) (g.watch n)) (ne_eqb e n ne)

    abbrev w : View
    w = record v { notes = no_scan v.notes; stage = Observing q t b e ((g.segs e).place); window = Some (window_over b (suc e) p₀ ((g.segs e).place)) }

    abbrev m' : Memory
    m' = update m (Observers ((g.segs e).place)) (m (Observers ((g.segs e).place)) + 1)

    observers : (a : ℕ) → a < f.places → m' (Observers a) ≡ watched add_watch (g.home a)
    observers a near = ⊎_elim
        (λ (s : (g.segs e).place ≡ a). ap (λ z. cond z (m (Observers ((g.segs e).place)) + 1) (m (Observers a))) (eq-eqb ((g.segs e).place) a s)
        ∙ (let o : m (Observers ((g.segs e).place)) ≡ g.watch e = ap (λ z. m (Observers z)) s ∙ (k.words.observers a near ∙ ap (watched g.watch) (ap g.home (sym s) ∙ home_e)) in let z : m (Observers ((g.segs e).place)) + 1 ≡ suc (g.watch e) = omega arith in z)
        ∙ sym (ap (watched add_watch) (ap g.home (sym s) ∙ home_e) ∙ watch_here))
        (λ (ne : (g.segs e).place ≢ a). ap (λ z. cond z (m (Observers ((g.segs e).place)) + 1) (m (Observers a))) (ne_eqb ((g.segs e).place) a ne) ∙ (k.words.observers a near ∙ go (g.home a) refl ne))
        (cases_eq ((g.segs e).place) a)
      where
        go : (z : ℕ) → g.home a ≡ z → (g.segs e).place ≢ a → watched g.watch z ≡ watched add_watch z
        go zero s ne = refl
        go (suc n) s ne = sym (watch_else n (λ r. ne (ap (λ z. (g.segs z).place) r ∙ (k.words.homes.there a n s).1)))

    watch_by : (n : ℕ) → add_watch n + watches n v ≡ g.watch n + watches n w
    watch_by n = ⊎_elim
        (λ (s : e ≡ n). let x : add_watch n ≡ suc (g.watch n) = ap (λ z. cond z (suc (g.watch e)) (g.watch n)) (eq-eqb e n s) ∙ ap (λ z. suc (g.watch z)) s in
        let y : watches n v ≡ 0 = ap flag (false_flag (in_range n v.window) (λ r. let z = (told n r).1 in omega arith)) in
        let z : watches n w ≡ 1 = ap flag (range_is b (suc e) n (omega arith) (omega arith)) in omega arith)
        (λ (ne : e ≢ n). let x = watch_else n ne in let z : watches n w ≡ watches n v = ap flag (same_flag (leb b n && ltb n (suc e)) (in_range n v.window)
        (λ r. let y = range_told b (suc e) n r in let y' = y.1 in has n y.0 (omega arith)) (λ r. let y = told n r in let y' = y.1 in range_is b (suc e) n y.0 (omega arith))) in omega arith)
        (cases_eq e n)

    pub observed_kept : Kept f m' (set views id w)
    observed_kept = kept_after f m m' views k id v w g' at
        record {
          counts = k.words.counts;
          calls = k.words.calls;
          chain = k.words.chain;
          ranges = k.words.ranges;
          homes = k.words.homes;
          tails = k.words.tails;
          links = k.words.links;
          places = k.words.places;
          sizes = k.words.sizes;
          nexts = k.words.nexts;
          slots = k.words.slots;
          strays = k.words.strays;
          dones = k.words.dones;
          observers = observers;
          bars = k.words.bars;
          turns = k.words.turns;
          preps = no_prep (λ a. m (Start a)) (λ a. m (Length a)) (λ a. m (Done a)) (λ a. m (Segment a)) (λ a b. m (Number a b)) f g.segs g.low g.last g.put g.home g.untold add_watch g.prep g.plan g.written idle;
        }
        record {
          rely = λ j u other there x. record {
            grows = grows;
            holds = λ h. h;
            still = λ a. (refl, refl, refl);
            hand_place = λ a n p e s. (e, s);
            window_place = λ a n p e s. (e, s, refl);
            held = λ a b e. refl;
            given = λ a b e. e;
            turned = λ e. absurd (other (let z : suc j ≡ suc id = sym e ∙ mine in let z' : j ≡ id = omega arith in z'));
            turns = λ e. e;
          };
          mine = record {
            of_object = ok.of_object;
            of_callers = ok.of_callers;
            holds = ok.holds;
            joint = ok.joint;
            notes = notes_alone g g' k.words.chain grows id (IsWhole v) (λ a. (refl, refl)) mine refl v.notes ok.notes;
            hand = ok.hand;
            ties = ok.ties;
            stage = ob;
            owned = ob.0.2;
            window = record {
              some = omega arith;
              opened = λ n r. let y = range_told b (suc e) n r in let y' = y.1 in ⊎_elim
                  (λ (s : n ≡ e). ((let z : n ≤ g.last = omega arith in z), subst (λ (z : ℕ). g.home ((g.segs z).place) ≡ suc z) (sym s) home_e, (λ z. let y : 0 ≡ suc ((g.segs n).place) = sym idle ∙ z in omega arith), (let o = k.words.links.order in let l = o.1 in let z : n ≤ g.linked = omega arith in z)))
                  (λ (ne : n ≢ e). was n (has n y.0 (omega arith)))
                  (cases_eq n e);
              behind = omega arith;
              first = λ l. first_is;
              last = λ n s l. let z : e ≡ n = (let s' : suc e ≡ suc n = s in omega arith) in ap (λ (x : ℕ). (g.segs x).place) (sym z);
              after = tt;
              ends = tt;
              length = tt;
              shown = tt;
              there = λ x lo hi. absurd (omega arith);
            };
          };
          paid_by = refl;
          untold_by = λ a. refl;
          watch_by = watch_by;
          seated = λ a b j other e. e;
          turned = λ j other e. e;
          seen = ((λ e. e), inr refl);
        }

  -- observe add of the first place, by which the window begins
  pub first_observed_kept : (q t p : ℕ) (u : Bool) → v.stage ≡ Closed q t u → v.window ≡ None → (g.segs g.low).place ≡ p
      → Kept f (update m (Observers p) (m (Observers p) + 1)) (set views id (record v { notes = no_scan v.notes; stage = Observing q t g.low g.low p; window = Some (window_over g.low (suc g.low) p p) }))
  first_observed_kept q t p u is none at_first =
      let st : StageOk g id active v.caller (Closed q t u) = subst (StageOk g id active v.caller) is ok.stage in
      let never : (n : ℕ) → in_range n v.window ≡ true → ⊥ = (λ n r. true≢false (sym r ∙ ap (in_range n) none)) in
      subst (λ (z : ℕ). Kept f (update m (Observers z) (m (Observers z) + 1)) (set views id (record v { notes = no_scan v.notes; stage = Observing q t g.low g.low z; window = Some (window_over g.low (suc g.low) z z) }))) at_first
      (observed_kept q t g.low g.low ((g.segs g.low).place) (st.0, st.1, st.2, st.3, st.4, st.5, refl, le_refl _, k.words.chain.inside, refl) (λ n r. absurd (never n r)) (λ n l h. absurd (omega arith)) (λ n r. absurd (never n r)) refl)

  -- observe add of the next place
  pub next_observed_kept : (o : Window) (q t n p r : ℕ) → v.stage ≡ Observing q t o.begin n p → v.window ≡ Some o → o.end ≡ suc n → p ≢ q → NextAt g (p, r)
      → Kept f (update m (Observers r) (m (Observers r) + 1)) (set views id (observing v q t o.begin (suc n) o.first r))
  next_observed_kept o q t n p r is open_window ends other next =
      let st : StageOk g id active v.caller (Observing q t o.begin n p) = subst (StageOk g id active v.caller) is ok.stage in
      let old : WindowOk g o = subst (WindowFact g) open_window ok.window in
      let before : n < g.last = ⊎_elim (λ (l : n < g.last). l) (λ (l : g.last ≤ n). absurd (let y = st.8 in let e : n ≡ g.last = omega arith in other (sym st.9 ∙ (ap (λ (z : ℕ). (g.segs z).place) e ∙ st.5)))) (cases_lt n g.last) in
      let there : r ≡ (g.segs (suc n)).place = next n (let a = st.6 in let c = st.7 in omega arith) (let a = st.3 in omega arith) before st.9 in
      let in_old : (x : ℕ) → in_range x v.window ≡ true → (leb o.begin x && ltb x o.end) ≡ true = (λ x y. sym (ap (in_range x) open_window) ∙ y) in
      subst (λ (z : ℕ). Kept f (update m (Observers z) (m (Observers z) + 1)) (set views id (observing v q t o.begin (suc n) o.first z))) (sym there)
      (observed_kept q t o.begin (suc n) o.first (st.0, st.1, st.2, st.3, st.4, st.5, st.6, (let a = st.7 in omega arith), before, refl) (λ x y. let z = range_told o.begin o.end x (in_old x y) in let z' = z.1 in (z.0, (let l : x < suc n = omega arith in l))) (λ x l h. ap (in_range x) open_window ∙ range_is o.begin o.end x l (omega arith)) (λ x y. old.opened x (in_old x y))
      (old.first old.some))

  -- a window over the whole chain has each position that is not taken
  abbrev full_window : ℕ → ℕ → Window
  full_window p q = record (window_over g.low (suc g.last) p q) { head = g.taken; tail = g.put }

  pub window_full : (p q : ℕ) → (g.segs g.low).place ≡ p → (g.segs g.last).place ≡ q → g.prep ≡ 0 → g.now ≡ g.last → WindowOk g (full_window p q)
  window_full p q at_low at_last idle settled = record {
    some = (let l = k.words.chain.inside in let z : g.low < suc g.last = omega arith in z);
    opened = λ n r. let q = range_told g.low (suc g.last) n r in let q' = q.1 in let l : n ≤ g.last = omega arith in (l, k.words.homes.chain n q.0 l, (λ z. never n z), (let o = k.words.links.order in let s = o.1 in let z : n ≤ g.linked = omega arith in z));
    behind = le_refl _;
    first = λ l. at_low;
    last = λ n s l. let z : g.last ≡ n = (let s' : suc g.last ≡ suc n = s in omega arith) in ap (λ (x : ℕ). (g.segs x).place) (sym z) ∙ at_last;
    after = tt;
    ends = tt;
    length = tt;
    shown = tt;
    there = λ p lo hi. at_position p lo hi;
  }
    where
      never : (n : ℕ) → g.prep ≢ suc ((g.segs n).place)
      never n z = let y : 0 ≡ suc ((g.segs n).place) = sym idle ∙ z in omega arith

      at_position : (p : ℕ) → g.taken ≤ p → p < g.put → (n i : ℕ) × ((leb g.low n && ltb n (suc g.last)) ≡ true) × ((g.segs n).start ≤ p) × (p < end_of g.segs g.last g.put n) × (i < (g.segs n).len) × (p % (g.segs n).len ≡ i) × ((g.cells ((g.segs n).place) i).0 ≡ p) × (g.bar n ≤ p)
      at_position p lo hi =
          let c = in_chain g.segs g.low g.last g.taken g.put k.words.chain p lo hi in let n : ℕ = c.0 in let len : ℕ = (g.segs n).len in let i : ℕ = p % len in
          let two : 2 ≤ len = k.words.chain.some_slot n c.2 in let near : i < len = mod-lt p (omega arith) in
          let under : p < end_of g.segs g.last g.put n = ⊎_elim (λ (s : n ≡ g.last). subst (λ (z : ℕ). p < z) (sym (ap (λ b. cond b g.put ((g.segs (suc n)).start)) (eq-eqb n g.last s))) hi)
          (λ (s : (suc n ≤ g.last) × (p < (g.segs (suc n)).start)). subst (λ (z : ℕ). p < z) (sym (ap (λ b. cond b g.put ((g.segs (suc n)).start)) (ne_eqb n g.last (λ z. let y = s.0 in omega arith)))) s.1) c.4 in
          let slot = k.words.slots ((g.segs n).place) n i (k.words.homes.chain n c.1 c.2) (never n) near in
          let bar = k.words.bars n in
          (n, i, range_is g.low (suc g.last) n c.1 (let y = c.2 in omega arith), c.3, under, near, refl, slot_position len g.values g.taken (g.segs n).start (end_of g.segs g.last g.put n) (m (Number ((g.segs n).place) i)) (m (Item ((g.segs n).place) i)) p (g.cells ((g.segs n).place) i) slot lo c.3 under, le_trans bar lo)

  -- head look: with the tail closed, and the whole chain observed
  pub head_looked : MayCount v → (o : Window) (q t n : ℕ) → v.stage ≡ Observing q t o.begin n q → v.window ≡ Some o → o.end ≡ suc n → let e : EntryMark = entry v.caller Snap (Numbers (map number_of (drop g.taken g.values))) in
      Kept f m (set views id (record v { seen = g.log ++ e ∷ []; joint = None; made = count_made v.paid v.made v.caller; paid = false; notes = blank; stage = Closed q t false; window = Some (record (window_over o.begin o.end o.first q) { head = g.taken; tail = t }) })) × (g.put ≡ t)
  head_looked may o q t n is open_window ends =
      let st : StageOk g id active v.caller (Observing q t o.begin n q) = subst (StageOk g id active v.caller) is ok.stage in
      let old : WindowOk g o = subst (WindowFact g) open_window ok.window in
      let small : v.caller < 64 = (let o = (ok.holds.owns v.caller may.0).1 in let z = k.words.calls.small in omega arith) in
      let whole : n ≡ g.last = ⊎_elim (λ (e : n ≡ g.last). e) (λ (ne : n ≢ g.last). absurd (k.words.chain.apart n g.last (let a = st.6 in let c = st.7 in omega arith) (let a = st.8 in omega arith) (le_refl _) (st.9 ∙ sym st.5))) (cases_eq n g.last) in
      let all : suc g.last ≡ o.end = sym (ends ∙ ap suc whole) in
      let e : EntryMark = entry v.caller Snap (Numbers (map number_of (drop g.taken g.values))) in
      let at_low : (g.segs g.low).place ≡ o.first = ap (λ (z : ℕ). (g.segs z).place) st.6 ∙ old.first old.some in
      let range : (x : ℕ) → in_range x v.window ≡ in_range x (Some (full_window o.first q)) = (λ x. ap (in_range x) open_window ∙ (λ i. leb (sym st.6 i) x && ltb x (sym all i))) in (
        subst (λ (z : (ℕ × ℕ) × ℕ). Kept f m (set views id (record v { seen = g.log ++ e ∷ []; joint = None; made = count_made v.paid v.made v.caller; paid = false; notes = blank; stage = Closed q t false; window = Some (record (window_over z.0.0 z.0.1 o.first q) { head = g.taken; tail = z.1 }) }))) (λ i. ((st.6 i, all i), st.4 i))
            (entry_kept f m views id v k at e refl (snap_next f.room f.first_len g.log g.values g.putters g.taken v.caller k.words.counts.stands small) may (Closed q t false) (st.0, st.1, st.2, st.3, st.4, st.5, λ z. absurd (true≢false (sym z))) (Some (full_window o.first q)) range (window_full o.first q at_low st.5 st.2 st.3)),
        st.4,
      )

  -- observe end: the first segment of the window is let go
  module _ (o : Window) (is : v.window ≡ Some o) (rest : Option Window) (told : (n : ℕ) → in_range n rest ≡ true → (o.begin < n) × (n < o.end)) (has : (n : ℕ) → o.begin < n → n < o.end → in_range n rest ≡ true) (fact : WindowFact g rest) where
    abbrev b : ℕ
    b = o.begin

    abbrev e : ℕ
    e = o.end

    abbrev end_watch : ℕ → ℕ
    end_watch = put_in g.watch b (g.watch b - 1)

    abbrev e' : Ghosts
    e' = record g { watch = end_watch }

    end_grows : Grows g e'
    end_grows = calm g g.log g.made g.owner g.paid g.now g.linked g.untold end_watch g.turn g.called g.shut g.prep g.plan g.written (le_refl _)

    held_window : WindowOk g o
    held_window = subst (WindowFact g) is ok.window

    some_left : b < e
    some_left = held_window.some

    in_first : (leb b b && ltb b e) ≡ true
    in_first = range_is b e b (le_refl _) some_left

    some_watch : 1 ≤ g.watch b
    some_watch = let a = total_part (watches b) views id v at in let w = k.seats.watch_is b in let one : watches b v ≡ 1 = ap (λ z. flag (in_range b z)) is ∙ ap flag in_first in omega arith

    end_here : end_watch b ≡ g.watch b - 1
    end_here = ap (λ z. cond z (g.watch b - 1) (g.watch b)) (eq-eqb b b refl)

    end_else : (n : ℕ) → b ≢ n → end_watch n ≡ g.watch n
    end_else n ne = ap (λ z. cond z (g.watch b - 1) (g.watch n)) (ne_eqb b n ne)

    less : (n : ℕ) → end_watch n ≤ g.watch n
    less n = ⊎_elim (λ (s : b ≡ n). subst (λ z. end_watch z ≤ g.watch z) s (let y = end_here in omega arith)) (λ (ne : b ≢ n). let y = end_else n ne in omega arith) (cases_eq b n)

    same : SameTurn g e'
    same = record { turn = refl; called = refl; shut = refl; prep = refl; plan = refl; written = refl; now = refl; linked = refl; watch = less; untold = λ q o. le_refl _; last = refl; low = refl; home = λ q. refl; put = λ s. refl }

    abbrev w' : View
    w' = record v { window = rest }

    abbrev m'' : Memory
    m'' = update m (Observers ((g.segs b).place)) (m (Observers ((g.segs b).place)) - 1)

    home_b : g.home ((g.segs b).place) ≡ suc b
    home_b = (held_window.opened b in_first).1

    end_observers : (a : ℕ) → a < f.places → m'' (Observers a) ≡ watched end_watch (g.home a)
    end_observers a near = ⊎_elim
        (λ (s : (g.segs b).place ≡ a). ap (λ z. cond z (m (Observers ((g.segs b).place)) - 1) (m (Observers a))) (eq-eqb ((g.segs b).place) a s)
        ∙ (let o : m (Observers ((g.segs b).place)) ≡ g.watch b = ap (λ z. m (Observers z)) s ∙ (k.words.observers a near ∙ ap (watched g.watch) (ap g.home (sym s) ∙ home_b)) in ap (λ z. z - 1) o)
        ∙ sym (ap (watched end_watch) (ap g.home (sym s) ∙ home_b) ∙ end_here))
        (λ (ne : (g.segs b).place ≢ a). ap (λ z. cond z (m (Observers ((g.segs b).place)) - 1) (m (Observers a))) (ne_eqb ((g.segs b).place) a ne) ∙ (k.words.observers a near ∙ go (g.home a) refl ne))
        (cases_eq ((g.segs b).place) a)
      where
        go : (z : ℕ) → g.home a ≡ z → (g.segs b).place ≢ a → watched g.watch z ≡ watched end_watch z
        go zero s ne = refl
        go (suc n) s ne = sym (end_else n (λ r. ne (ap (λ z. (g.segs z).place) r ∙ (k.words.homes.there a n s).1)))

    end_by : (n : ℕ) → end_watch n + watches n v ≡ g.watch n + watches n w'
    end_by n = let old : watches n v ≡ flag (leb b n && ltb n e) = ap (λ z. flag (in_range n z)) is in ⊎_elim
        (λ (s : b ≡ n). let x : end_watch n ≡ g.watch n - 1 = ap (λ z. cond z (g.watch b - 1) (g.watch n)) (eq-eqb b n s) ∙ ap (λ z. g.watch z - 1) s in
        let y : watches n v ≡ 1 = old ∙ ap flag (range_is b e n (omega arith) (let l = some_left in omega arith)) in let one : 1 ≤ g.watch n = subst (λ z. 1 ≤ g.watch z) s some_watch in
        let z : watches n w' ≡ 0 = ap flag (false_flag (in_range n rest) (λ r. let y = (told n r).0 in omega arith)) in omega arith)
        (λ (ne : b ≢ n). let x = end_else n ne in let z : watches n w' ≡ flag (leb b n && ltb n e) = ap flag (same_flag (in_range n rest) (leb b n && ltb n e)
        (λ r. let y = told n r in let y' = y.0 in range_is b e n (omega arith) y.1) (λ r. let y = range_told b e n r in let y' = y.0 in has n (omega arith) y.1)) in omega arith)
        (cases_eq b n)

    pub ended_kept : Kept f m'' (set views id w')
    ended_kept = kept_after f m m'' views k id v w' e' at
        record {
          counts = k.words.counts;
          calls = k.words.calls;
          chain = k.words.chain;
          ranges = k.words.ranges;
          homes = k.words.homes;
          tails = k.words.tails;
          links = k.words.links;
          places = k.words.places;
          sizes = k.words.sizes;
          nexts = k.words.nexts;
          slots = k.words.slots;
          strays = k.words.strays;
          dones = k.words.dones;
          observers = end_observers;
          bars = k.words.bars;
          turns = k.words.turns;
          preps = prep_watch (λ a. m (Start a)) (λ a. m (Length a)) (λ a. m (Done a)) (λ a. m (Segment a)) (λ a b. m (Number a b)) f g.segs g.low g.last g.put g.home g.untold g.watch end_watch g.prep g.plan g.written less k.words.preps;
        }
        record {
          rely = λ j u other there x. record {
            grows = end_grows;
            holds = λ h. h;
            still = λ a. (refl, refl, refl);
            hand_place = λ a n p e s. (e, s);
            window_place = λ a n p e s. (e, s, refl);
            held = λ a b e. refl;
            given = λ a b e. e;
            turned = λ e. same;
            turns = λ e. e;
          };
          mine = record {
            of_object = ok.of_object;
            of_callers = ok.of_callers;
            holds = ok.holds;
            joint = ok.joint;
            notes = notes_stay g e' k.words.chain end_grows id (IsWhole v) (λ a. (refl, refl)) k.words.homes (λ e. e) (λ e. record { now = refl; last = refl; low = refl; prep = refl; home = λ q. refl; untold = λ q o. le_refl _ }) (λ a. refl) v.notes ok.notes;
            hand = ok.hand;
            ties = ok.ties;
            stage = stage_stays g e' k.words.chain end_grows id active v.caller v.stage (λ e. same) (λ e. e) ok.stage;
            window = window_fact_stays g e' k.words.chain end_grows k.words.homes rest (λ a n p s r. (s, r, refl)) fact;
            owned = owned_by (subst (WindowOwned active) is ok.owned) rest;
          };
          paid_by = refl;
          untold_by = λ a. refl;
          watch_by = end_by;
          seated = λ a b j other e. e;
          turned = λ j other e. e;
          seen = ((λ e. e), inr refl);
        }

  -- the segments after the first one of a window
  abbrev rest : Window → ℕ → Window
  rest o r = record (window_over (suc o.begin) o.end r o.last) { head = left_from o.ends o.head o.tail; tail = o.tail }

  -- the positions that they have
  left_after : (o : Window) (x : WindowOk g o) → suc o.begin < o.end → (e : Option ℕ) → IfSome e (λ z. suc o.begin < o.end → (g.segs (suc o.begin)).start ≡ z) → (p : ℕ) → left_from e o.head o.tail ≤ p → p < o.tail
      → (o.head ≤ p) × ((g.segs (suc o.begin)).start ≤ p)
  left_after o x more None y p lo hi = absurd (omega arith)
  left_after o x more (Some e) y p lo hi = let start = y more in ⊎_elim
      (λ (l : o.head < e). let a : e ≤ p = subst (λ b. cond b e o.head ≤ p) (lt-ltb o.head e l) lo in (omega arith, omega arith))
      (λ (l : e ≤ o.head). let a : o.head ≤ p = subst (λ b. cond b e o.head ≤ p) (le-ltb o.head e l) lo in (a, omega arith))
      (cases_lt o.head e)

  rest_ok : (o : Window) (r : ℕ) → WindowOk g o → suc o.begin < o.end → r ≡ (g.segs (suc o.begin)).place → WindowOk g (rest o r)
  rest_ok o r x more there = record {
    some = more;
    opened = λ n y. x.opened n (wider n y);
    behind = x.behind;
    first = λ l. sym there;
    last = λ n s l. x.last n s (let l' : suc o.begin ≤ n = l in omega arith);
    after = tt;
    ends = tt;
    length = tt;
    shown = tt;
    there = λ p lo hi. let b = left_after o x more o.ends x.ends p lo hi in let t = x.there p b.0 hi in let n : ℕ = t.0 in let z = range_told o.begin o.end n t.2 in
        let after : suc o.begin ≤ n = later n p z.0 b.1 t.4 in (n, t.1, range_is (suc o.begin) o.end n after z.1, t.3, t.4, t.5, t.6, t.7, t.8);
  }
    where
      wider : (n : ℕ) → (leb (suc o.begin) n && ltb n o.end) ≡ true → (leb o.begin n && ltb n o.end) ≡ true
      wider n y = let z = range_told (suc o.begin) o.end n y in let z' = z.0 in range_is o.begin o.end n (omega arith) z.1

      later : (n p : ℕ) → o.begin ≤ n → (g.segs (suc o.begin)).start ≤ p → p < end_of g.segs g.last g.put n → suc o.begin ≤ n
      later n p l start under = ⊎_elim
          (λ (e : n ≡ o.begin). absurd (let second = (x.opened (suc o.begin) (range_is o.begin o.end (suc o.begin) (omega arith) more)).0 in
          let u : p < (g.segs (suc o.begin)).start = subst (λ z. p < z) (ap (λ b. cond b g.put ((g.segs (suc o.begin)).start)) (ne_eqb o.begin g.last (omega arith))) (subst (λ z. p < end_of g.segs g.last g.put z) e under) in omega arith))
          (λ (ne : n ≢ o.begin). omega arith)
          (cases_eq n o.begin)

  -- of a window with more than one segment the others are left
  pub more_left_kept : (o : Window) (r : ℕ) → v.window ≡ Some o → o.first ≢ o.last → o.after ≡ Some r
      → Kept f (update m (Observers o.first) (m (Observers o.first) - 1)) (set views id (record v { window = Some (rest o r) }))
  more_left_kept o r is more next =
      let x : WindowOk g o = subst (WindowFact g) is ok.window in let beyond = more_left g o x more in
      let there : r ≡ (g.segs (suc o.begin)).place = (subst (λ (z : Option ℕ). IfSome z (λ r. suc o.begin < o.end → r ≡ (g.segs (suc o.begin)).place)) next x.after) beyond in
      subst (λ (z : ℕ). Kept f (update m (Observers z) (m (Observers z) - 1)) (set views id (record v { window = Some (rest o r) }))) (x.first x.some)
      (ended_kept o is (Some (rest o r))
      (λ n y. let z = range_told (suc o.begin) o.end n y in (z.0, z.1))
      (λ n l h. range_is (suc o.begin) o.end n l h)
      (rest_ok o r x beyond there))

  -- and of one with one segment nothing is left
  pub none_left_kept : (o : Window) → v.window ≡ Some o → o.first ≡ o.last
      → Kept f (update m (Observers o.first) (m (Observers o.first) - 1)) (set views id (record v { window = None }))
  none_left_kept o is same_place =
      let x : WindowOk g o = subst (WindowFact g) is ok.window in let least = one_left g o x same_place in
      subst (λ (z : ℕ). Kept f (update m (Observers z) (m (Observers z) - 1)) (set views id (record v { window = None }))) (x.first x.some)
      (ended_kept o is None (λ n y. absurd (true≢false (sym y))) (λ n l h. absurd (omega arith)) tt)
