-- The kinds of step on one number or item word of the slot that the seat holds: item store, publish.
use Rattle.std.proofs.Common.{◌≡◌, ℕ, suc, ◌+◌, ◌*◌, ◌<◌, ◌≤◌, ◌≢◌, ◌⊎◌, inl, inr, ⊎_elim, List, [], ◌∷◌, set, sym, refl, ap, ◌∙◌, subst, arith, le_refl}
use mathlib.Core.Option.{some}
use lib.ListN.{get_elem?}
use Rattle.passes.specs.Numbers.{HasNumber}
use Rattle.seg_rule.specs.declared.word.QueueWord.TheVariants.{Start, Length, Done, Segment, Number, Item}
use Rattle.seg_rule.specs.declared.view.View.{View}
use Rattle.seg_rule.specs.declared.view.Hand.{Hand}
use Rattle.seg_rule.specs.declared.view.Hand.TheVariants.{Nothing, Reserved, Stored}
use Rattle.seg_rule.specs.Words.{Memory, update}
use Rattle.seg_rule.specs.Chain.{end_of}
use Rattle.seg_rule.specs.Slots.{writing, stored, full, Cell, holder, SlotOk}
use Rattle.seg_rule.specs.Places.{Cells, put_at}
use Rattle.seg_rule.specs.declared.form.Form.{Form}
use Rattle.seg_rule.specs.Rule.{Ghosts, IsWhole, HandOk, InHand, ViewOk, Words, Kept, takes_at}
use Rattle.seg_rule.specs.Rely.{StaysIn, Grows, SameTurn, Rely}
use Rattle.seg_rule.specs.Steps.{in_hand}
use Rattle.seg_rule.proofs.Places.{at_here, at_else}
use Rattle.seg_rule.proofs.Stays.{notes_stay, window_fact_stays}
use Rattle.seg_rule.proofs.Preps.{prep_numbers}
use Rattle.seg_rule.proofs.Frames.{strays_put, kept_after, Loose, own_loose, free_loose, each_slot, put_free, put_full, put_kept, put_held, put_given, slots_change}

pub same_turn : (g : Ghosts) (cells : Cells) → SameTurn g (record g { cells = cells })
same_turn g cells = record { turn = refl; called = refl; shut = refl; prep = refl; plan = refl; written = refl; now = refl; linked = refl; watch = λ n. le_refl _; untold = λ q o. le_refl _; last = refl; low = refl; home = λ q. refl; put = λ s. refl }

module _ (f : Form) (m : Memory) (views : List View) (id : ℕ) (v : View) (k : Kept f m views) (at : get_elem? views id ≡ some v) where
  abbrev g : Ghosts
  g = k.g

  abbrev ok : ViewOk f g id v
  ok = k.seats.each id v at

  abbrev active : Type 0
  active = HasNumber v.held v.caller

  -- the one cell that the seat holds goes on, and nothing else
  module _ (q i : ℕ) (c : Cell) (w : Hand) (had : holder (g.cells q i).1 ≡ suc id) (loose : Loose id c) (same : (n : ℕ) → g.home q ≡ suc n → g.bar n ≤ (g.cells q i).0 → StaysIn (g.cells q i) c) where
    abbrev g' : Ghosts
    g' = record g { cells = put_at g.cells q i c }

    cell_grows : Grows g g'
    cell_grows = record {
      values = λ p x e. e;
      putters = λ p x e. e;
      put_up = le_refl _;
      taken_up = le_refl _;
      segs = λ n l. refl;
      last_up = le_refl _;
      linked_up = le_refl _;
      opens = λ l. let l' : suc g.last ≤ g.last = l in absurd (omega arith);
      bar_up = λ n. le_refl _;
      free_stays = λ a b e. put_free g q i c (g.put < g.put) (λ z. absurd (let s : suc id ≡ 0 = sym had ∙ ap (λ (y : Cell). holder y.1) z in omega arith)) a b e;
      full_stays = λ a b n l l' e s. put_full g q i c (g.taken < g.taken) (λ z. absurd (let s : suc id ≡ 0 = sym had ∙ ap (λ (y : Cell). holder y.1) z in omega arith)) a b n l;
      kept = λ a b n e p l. put_kept g q i c same a b n e;
    }

    cell_rely : (j : ℕ) (u : View) → j ≢ id → Rely f j u g g'
    cell_rely j u other = record {
      grows = cell_grows;
      holds = λ h. h;
      still = λ a. (refl, refl, refl);
      hand_place = λ a n p e s. (e, s);
      window_place = λ a n p e s. (e, s, refl);
      held = put_held g q i c id j other (own_loose id (g.cells q i) had);
      given = put_given g q i c id j other loose;
      turned = λ t. same_turn g (put_at g.cells q i c);
      turns = λ t. t;
    }

    pub cell_kept : (m' : Memory) → Words f m' g' → HandOk g' id active v.caller w → ((a b : ℕ) → InHand v.hand a b → (q ≢ a) ⊎ (i ≢ b) → InHand w a b) → (holder c.1 ≡ suc id → InHand w q i) → ((a : ℕ) → takes_at a v.hand ≡ takes_at a w)
        → Kept f m' (set views id (in_hand v w))
    cell_kept m' words hand others mine takes = kept_after f m m' views k id v (in_hand v w) g' at words record {
      rely = λ j u other there x. cell_rely j u other;
      mine = record {
        of_object = ok.of_object;
        of_callers = ok.of_callers;
        holds = ok.holds;
        joint = ok.joint;
        notes = notes_stay g g' k.words.chain cell_grows id (IsWhole v) (λ a. (refl, refl)) k.words.homes (λ e. e) (λ e. record { now = refl; last = refl; low = refl; prep = refl; home = λ q. refl; untold = λ q o. le_refl _ }) (λ a. refl) v.notes ok.notes;
        hand = hand;
        ties = each_slot g.cells q i c (λ a b d. holder d.1 ≡ suc id → InHand w a b) mine (λ a b n e. others a b (ok.ties a b e) n);
        stage = ok.stage;
        window = window_fact_stays g g' k.words.chain cell_grows k.words.homes v.window (λ a n p e s. (e, s, refl)) ok.window;
        owned = ok.owned;
      };
      paid_by = refl;
      untold_by = λ a. ap (λ (z : ℕ). g.untold a + z) (takes a);
      watch_by = λ n. refl;
      seated = λ a b j other e. put_given g q i c id j other loose a b e;
      turned = λ j other e. e;
      seen = ((λ e. e), inr refl);
    }

  -- item store
  pub stored_kept : (p q i x : ℕ) → v.hand ≡ Reserved p q i x → Kept f (update m (Item q i) x) (set views id (in_hand v (Stored p q i x)))
  stored_kept p q i x is =
      let h : HandOk g id active v.caller (Reserved p q i x) = subst (HandOk g id active v.caller) is ok.hand in let s = h.1 in let c : Cell = (p, stored id) in
      let item' : ℕ → ℕ → ℕ = put_at (λ a b. m (Item a b)) q i x in
      let number : (n : ℕ) → g.home q ≡ suc n → g.prep ≢ suc q → i < (g.segs n).len → SlotOk (g.segs n).len g.values g.taken (g.segs n).start (end_of g.segs g.last g.put n) (m (Number q i)) (m (Item q i)) i (p, writing id)
      = λ n a b l. subst (SlotOk (g.segs n).len g.values g.taken (g.segs n).start (end_of g.segs g.last g.put n) (m (Number q i)) (m (Item q i)) i) h.2 (k.words.slots q n i a b l) in
      cell_kept q i c (Stored p q i x) (ap (λ (z : Cell). holder z.1) h.2) (own_loose id c refl) (λ n a b. subst (λ (z : Cell). StaysIn z c) (sym h.2) (refl, le_refl _)) (update m (Item q i) x)
      record {
        counts = k.words.counts;
        calls = k.words.calls;
        chain = k.words.chain;
        ranges = k.words.ranges;
        homes = k.words.homes;
        tails = k.words.tails;
        links = k.words.links;
        places = k.words.places;
        sizes = k.words.sizes;
        nexts = k.words.nexts;
        strays = k.words.strays;
        slots = slots_change (λ a b. m (Number a b)) (λ a b. m (Number a b)) (λ a b. m (Item a b)) item' g.values g.taken g.taken g.put g.segs g.last g.home g.cells g.prep q i c (le_refl _)
            (λ a b n. (refl, at_else (λ a b. m (Item a b)) q i a b x n)) (λ a b n z e o r s t u. u)
            (λ n a b l. let o = number n a b l in record {
              lies = o.lies;
              begins = o.begins;
              freed = o.freed;
              waits = o.waits;
              shows = o.shows;
              phase = (o.phase.0, o.phase.1, h.3 ∙ ap (λ (y : ℕ). some (y ∷ [])) (sym (at_here (λ a b. m (Item a b)) q i x)));
            })
            k.words.slots;
        dones = k.words.dones;
        observers = k.words.observers;
        bars = k.words.bars;
        turns = k.words.turns;
        preps = k.words.preps;
      }
      (h.0, s, at_here g.cells q i c, h.3, h.4)
      (λ a b e n. subst (λ (z : Hand). InHand z a b) is e) (λ e. (refl, refl)) (λ a. ap (takes_at a) is)

  -- publish
  pub published_kept : (p q i x : ℕ) → v.hand ≡ Stored p q i x → Kept f (update m (Number q i) (2 * p + 1)) (set views id (in_hand v Nothing))
  published_kept p q i x is =
      let h : HandOk g id active v.caller (Stored p q i x) = subst (HandOk g id active v.caller) is ok.hand in let s = h.1 in let c : Cell = (p, full) in
      let num' : ℕ → ℕ → ℕ = put_at (λ a b. m (Number a b)) q i (2 * p + 1) in
      let slot : (n : ℕ) → g.home q ≡ suc n → g.prep ≢ suc q → i < (g.segs n).len → SlotOk (g.segs n).len g.values g.taken (g.segs n).start (end_of g.segs g.last g.put n) (m (Number q i)) (m (Item q i)) i (p, stored id)
      = λ n a b l. subst (SlotOk (g.segs n).len g.values g.taken (g.segs n).start (end_of g.segs g.last g.put n) (m (Number q i)) (m (Item q i)) i) h.2 (k.words.slots q n i a b l) in
      cell_kept q i c Nothing (ap (λ (z : Cell). holder z.1) h.2) (free_loose id c refl) (λ n a b. subst (λ (z : Cell). StaysIn z c) (sym h.2) (refl, (let l : 0 ≤ 1 = omega arith in l))) (update m (Number q i) (2 * p + 1))
      record {
        counts = k.words.counts;
        calls = k.words.calls;
        chain = k.words.chain;
        ranges = k.words.ranges;
        homes = k.words.homes;
        tails = k.words.tails;
        links = k.words.links;
        places = k.words.places;
        sizes = k.words.sizes;
        nexts = k.words.nexts;
        strays = strays_put (λ a b. m (Number a b)) g.taken g.segs g.home g.prep q i (2 * p + 1) (λ z e. inr (s.0, s.1.0, s.1.1, s.1.2)) k.words.strays;
        slots = slots_change (λ a b. m (Number a b)) num' (λ a b. m (Item a b)) (λ a b. m (Item a b)) g.values g.taken g.taken g.put g.segs g.last g.home g.cells g.prep q i c (le_refl _)
            (λ a b n. (at_else (λ a b. m (Number a b)) q i a b (2 * p + 1) n, refl)) (λ a b n z e o r s t u. u)
            (λ n a b l. let o = slot n a b l in record {
              lies = o.lies;
              begins = o.begins;
              freed = o.freed;
              waits = o.waits;
              shows = at_here (λ a b. m (Number a b)) q i (2 * p + 1);
              phase = o.phase;
            })
            k.words.slots;
        dones = k.words.dones;
        observers = k.words.observers;
        bars = k.words.bars;
        turns = k.words.turns;
        preps = prep_numbers (λ a. m (Start a)) (λ a. m (Length a)) (λ a. m (Done a)) (λ a. m (Segment a)) (λ a b. m (Number a b)) num' f g.segs g.low g.last g.put g.home g.untold g.watch g.prep g.plan g.written
            (λ a b e. at_else (λ a b. m (Number a b)) q i a b (2 * p + 1) (inl (λ z. s.1.1 (e ∙ ap suc (sym z))))) k.words.preps;
      }
      tt
      (λ a b e n. let o = subst (λ (z : Hand). InHand z a b) is e in absurd (⊎_elim (λ (y : q ≢ a). y o.0) (λ (y : i ≢ b). y o.1) n)) (λ e. absurd (let z : 0 ≡ suc id = e in omega arith)) (λ a. ap (takes_at a) is)
