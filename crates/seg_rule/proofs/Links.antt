-- The words of the chain, which the holder of the turn alone stores: turn leave, tail reopen, next store, current store, first store.
use Rattle.std.proofs.Common.{◌≡◌, ℕ, suc, ◌*◌, ◌<◌, ◌≤◌, ◌≢◌, inl, inr, ⊎_elim, eqb, cond, Bool, List, set, sym, refl, ap, ◌∙◌, subst, arith, le_refl, eq-eqb, ne_eqb}
use Rattle.std.proofs.lemmas.Bool.{cases_eq, cond_both}
use mathlib.Core.Option.{some}
use lib.ListN.{get_elem?}
use Rattle.passes.specs.Numbers.{HasNumber}
use Rattle.seg_rule.specs.declared.word.QueueWord.TheVariants.{Turn, Current, First, Tail, Next, Number, Item}
use Rattle.seg_rule.specs.declared.view.View.{View}
use Rattle.seg_rule.specs.declared.view.Stage.{Stage}
use Rattle.seg_rule.specs.declared.view.Stage.TheVariants.{Away, Plain, Closed, Found, Preparing, Opened, Linked, Observing}
use Rattle.seg_rule.specs.Words.{Memory, update}
use Rattle.seg_rule.specs.Chain.{end_of}
use Rattle.seg_rule.specs.Slots.{SlotOk}
use Rattle.seg_rule.specs.declared.form.Form.{Form}
use Rattle.seg_rule.specs.declared.view.Scan.{Scan}
use Rattle.seg_rule.specs.Rule.{Ghosts, IsWhole, ScanSeen, NotesOk, StageOk, ViewOk, Words, Kept}
use Rattle.seg_rule.specs.Rely.{Grows}
use Rattle.seg_rule.proofs.Chains.{first_moves}
use Rattle.seg_rule.specs.Steps.{on_stage, MayMoveFirst}
use Rattle.seg_rule.proofs.Stays.{notes_alone, window_fact_stays}
use Rattle.seg_rule.proofs.Frames.{kept_after}
use Rattle.seg_rule.proofs.Tails.{tails_put}
use Rattle.seg_rule.proofs.Calm.{calm}

module _ (f : Form) (m : Memory) (views : List View) (id : ℕ) (v : View) (k : Kept f m views) (at : get_elem? views id ≡ some v) where
  abbrev g : Ghosts
  g = k.g

  abbrev ok : ViewOk f g id v
  ok = k.seats.each id v at

  abbrev active : Type 0
  active = HasNumber v.held v.caller

  at_stage : (s : Stage) → v.stage ≡ s → StageOk g id active v.caller s
  at_stage s is = subst (StageOk g id active v.caller) is ok.stage

  -- the holder's stage moves on, with the ghost data of the turn
  module _ (turn called shut now linked : ℕ) (s : Stage) (mine : g.turn ≡ suc id) (more : g.linked ≤ linked) where
    abbrev g' : Ghosts
    g' = record g { turn = turn; called = called; shut = shut; now = now; linked = linked }

    grows : Grows g g'
    grows = calm g g.log g.made g.owner g.paid now linked g.untold g.watch turn called shut g.prep g.plan g.written more

    pub stage_kept : (m' : Memory) → Words f m' g' → StageOk g' id active v.caller s → ((j : ℕ) → j ≢ id → turn ≡ suc j → g.turn ≡ suc j) → Kept f m' (set views id (on_stage v s))
    stage_kept m' words stage turns = kept_after f m m' views k id v (on_stage v s) g' at words record {
      rely = λ j u other there x. record {
        grows = grows;
        holds = λ h. h;
        still = λ a. (refl, refl, refl);
        hand_place = λ a n p e s. (e, s);
        window_place = λ a n p e s. (e, s, refl);
        held = λ a b e. refl;
        given = λ a b e. e;
        turned = λ e. absurd (other (let z : suc j ≡ suc id = sym e ∙ mine in let z' : j ≡ id = omega arith in z'));
        turns = turns j other;
      };
      mine = record {
        of_object = ok.of_object;
        of_callers = ok.of_callers;
        holds = ok.holds;
        joint = ok.joint;
        notes = notes_alone g g' k.words.chain grows id (IsWhole v) (λ a. (refl, refl)) mine refl v.notes ok.notes;
        hand = ok.hand;
        ties = ok.ties;
        stage = stage;
        window = window_fact_stays g g' k.words.chain grows k.words.homes v.window (λ a n p e s. (e, s, refl)) ok.window;
        owned = ok.owned;
      };
      paid_by = refl;
      untold_by = λ a. refl;
      watch_by = λ n. refl;
      seated = λ a b j other e. e;
      turned = turns;
      seen = ((λ e. e), inr refl);
    }

  -- turn leave
  pub turn_left : v.stage ≡ Plain → Kept f (update m Turn 0) (set views id (on_stage v Away))
  turn_left is = let st = at_stage Plain is in stage_kept 0 0 g.shut g.now g.linked Away st.0.0 (le_refl _) (update m Turn 0)
      record {
        counts = k.words.counts;
        calls = k.words.calls;
        chain = k.words.chain;
        ranges = k.words.ranges;
        homes = k.words.homes;
        tails = k.words.tails;
        links = k.words.links;
        places = k.words.places;
        sizes = k.words.sizes;
        nexts = k.words.nexts;
        slots = k.words.slots;
        strays = k.words.strays;
        dones = k.words.dones;
        observers = k.words.observers;
        bars = k.words.bars;
        turns = record { word_is = refl; idle = λ e. (refl, st.1, st.2, st.3); calm = k.words.turns.calm; bit = k.words.turns.bit };
        preps = k.words.preps;
      }
      (λ e. let z : 0 ≡ suc id = e in omega arith) (λ j other e. absurd (let z : 0 ≡ suc j = e in omega arith))

  -- tail reopen
  pub reopened_kept : (q t : ℕ) (b : Bool) → v.stage ≡ Closed q t b → Kept f (update m (Tail q) (2 * t)) (set views id (on_stage v Plain))
  reopened_kept q t b is = let st = at_stage (Closed q t b) is in
      let home_q : g.home q ≡ suc g.last = subst (λ (z : ℕ). g.home z ≡ suc g.last) st.5 (k.words.homes.chain g.last k.words.chain.inside (le_refl _)) in
      stage_kept g.turn g.called 0 g.now g.linked Plain st.0.0 (le_refl _) (update m (Tail q) (2 * t))
      record {
        counts = k.words.counts;
        calls = k.words.calls;
        chain = k.words.chain;
        ranges = k.words.ranges;
        homes = k.words.homes;
        tails = tails_put (λ p. m (Tail p)) f.places g.segs g.last g.put g.shut g.put 0 g.home q (2 * t) home_q (λ p e. sym (k.words.homes.there p g.last e).1 ∙ st.5) (let z = st.4 in omega arith) k.words.tails;
        links = k.words.links;
        places = k.words.places;
        sizes = k.words.sizes;
        nexts = k.words.nexts;
        slots = k.words.slots;
        strays = k.words.strays;
        dones = k.words.dones;
        observers = k.words.observers;
        bars = k.words.bars;
        turns = record { word_is = k.words.turns.word_is; idle = λ e. absurd (let z : 0 ≡ suc id = sym e ∙ st.0.0 in omega arith); calm = λ e. st.2; bit = let z : 0 ≤ 1 = omega arith in z };
        preps = k.words.preps;
      }
      (st.0, refl, st.2, st.3) (λ j other e. e)

  -- next store: the current segment is linked to the opened one
  pub linked_kept : (c q t : ℕ) → v.stage ≡ Opened c q t → Kept f (update m (Next c) q) (set views id (on_stage v (Linked q t)))
  linked_kept c q t is = let st = at_stage (Opened c q t) is in let at_c = st.7 in let o = k.words.links.order in
      stage_kept g.turn g.called g.shut g.now g.last (Linked q t) st.0.0 o.2 (update m (Next c) q)
      record {
        counts = k.words.counts;
        calls = k.words.calls;
        chain = k.words.chain;
        ranges = k.words.ranges;
        homes = k.words.homes;
        tails = k.words.tails;
        links = record {
          first_is = k.words.links.first_is;
          current_is = k.words.links.current_is;
          order = (o.0, (let z = st.3 in let y : g.now ≤ g.last = omega arith in y), le_refl _, o.3);
          next_is = λ a l h p. ⊎_elim
              (λ (e : c ≡ (g.segs a).place).
              let home_c : g.home c ≡ suc g.now = subst (λ (z : ℕ). g.home z ≡ suc g.now) at_c (k.words.homes.chain g.now o.0 (let z = st.3 in omega arith)) in
              let same : g.now ≡ a = (let z : suc g.now ≡ suc a = sym home_c ∙ (ap g.home e ∙ h) in omega arith) in
              ap (λ b. cond b q (m (Next ((g.segs a).place)))) (eq-eqb c ((g.segs a).place) e) ∙ (sym st.5 ∙ ap (λ (z : ℕ). (g.segs z).place) (sym st.3 ∙ ap suc same)))
              (λ (ne : c ≢ (g.segs a).place). ap (λ b. cond b q (m (Next ((g.segs a).place)))) (ne_eqb c ((g.segs a).place) ne)
              ∙ k.words.links.next_is a (⊎_elim (λ (e : a ≡ g.now). absurd (ne (sym at_c ∙ ap (λ (z : ℕ). (g.segs z).place) (sym e)))) (λ (x : a ≢ g.now). let z = st.3 in let y = st.4 in omega arith) (cases_eq a g.now)) h p)
              (cases_eq c ((g.segs a).place));
        };
        places = k.words.places;
        sizes = k.words.sizes;
        nexts = λ a l. cond_both (eqb c a) q (m (Next a)) (λ z. z < f.places) (λ e. subst (λ z. z < f.places) st.5 (k.words.ranges.placed g.last (le_refl _))) (λ e. k.words.nexts a l);
        slots = k.words.slots;
        strays = k.words.strays;
        dones = k.words.dones;
        observers = k.words.observers;
        bars = k.words.bars;
        turns = k.words.turns;
        preps = k.words.preps;
      }
      (st.0, st.1, st.2, st.3, refl, st.5, st.6) (λ j other e. e)

  -- current store
  pub current_kept : (q t : ℕ) → v.stage ≡ Linked q t → Kept f (update m Current q) (set views id (on_stage v Plain))
  current_kept q t is = let st = at_stage (Linked q t) is in let o = k.words.links.order in
      stage_kept g.turn g.called g.shut g.last g.linked Plain st.0.0 (le_refl _) (update m Current q)
      record {
        counts = k.words.counts;
        calls = k.words.calls;
        chain = k.words.chain;
        ranges = k.words.ranges;
        homes = k.words.homes;
        tails = k.words.tails;
        links = record {
          first_is = k.words.links.first_is;
          current_is = sym st.5;
          order = ((let z = o.0 in let y = st.3 in let x : g.low ≤ g.last = omega arith in x), (let z = st.4 in let x : g.last ≤ g.linked = omega arith in x), o.2, (let x : g.last ≤ suc g.last = omega arith in x));
          next_is = k.words.links.next_is;
        };
        places = k.words.places;
        sizes = k.words.sizes;
        nexts = k.words.nexts;
        slots = k.words.slots;
        strays = k.words.strays;
        dones = k.words.dones;
        observers = k.words.observers;
        bars = k.words.bars;
        turns = record { word_is = k.words.turns.word_is; idle = λ e. absurd (let z : 0 ≡ suc id = sym e ∙ st.0.0 in omega arith); calm = k.words.turns.calm; bit = k.words.turns.bit };
        preps = k.words.preps;
      }
      (st.0, st.1, st.2, refl) (λ j other e. e)

  -- first store: the first segment has no position that is not taken
  module _ (x : ℕ) (scan : Scan) (mine : g.turn ≡ suc id) (idle : MayMoveFirst v.stage) (next : suc g.low ≤ g.now) (is : (g.segs (suc g.low)).place ≡ x) (past : (g.segs (suc g.low)).start ≤ g.taken) (known : ScanSeen (record g { low = suc g.low }) scan) where
    abbrev f' : Ghosts
    f' = record g { low = suc g.low }

    before_last : g.low < g.last
    before_last = let o = k.words.links.order in let a = o.1 in let b = o.2 in omega arith

    first_grows : Grows g f'
    first_grows = record {
      values = λ p x e. e;
      putters = λ p x e. e;
      put_up = le_refl _;
      taken_up = le_refl _;
      segs = λ n l. refl;
      last_up = le_refl _;
      linked_up = le_refl _;
      opens = λ l. let l' : suc g.last ≤ g.last = l in absurd (omega arith);
      bar_up = λ n. le_refl _;
      free_stays = λ a b e. inr (inl e);
      full_stays = λ a b n l l' e near z. ⊎_elim
          (λ (s : n ≡ g.low). absurd (
          let home : g.home a ≡ suc n = subst (λ (y : ℕ). g.home y ≡ suc n) e (k.words.homes.chain n l l') in
          let slot = subst (SlotOk (g.segs n).len g.values g.taken (g.segs n).start (end_of g.segs g.last g.put n) (m (Number a b)) (m (Item a b)) b) z (k.words.slots a n b home (λ p. let y = (k.words.preps.apart a n p home).0 in omega arith) near) in
          let u : g.taken < (g.segs (suc n)).start = subst (λ (y : ℕ). g.taken < y) (ap (λ b. cond b g.put ((g.segs (suc n)).start)) (ne_eqb n g.last (λ y. let q = before_last in omega arith))) slot.phase.1 in
          let u' : g.taken < (g.segs (suc g.low)).start = subst (λ (y : ℕ). g.taken < (g.segs (suc y)).start) s u in omega arith))
          (λ (s : n ≢ g.low). inr ((let y : suc g.low ≤ n = omega arith in y), z))
          (cases_eq n g.low);
      kept = λ a b n e p l s. (refl, le_refl _);
    }

    stage_on : (s : Stage) → MayMoveFirst s → StageOk g id active v.caller s → StageOk f' id active v.caller s
    stage_on Away i y = absurd i
    stage_on Plain i y = y
    stage_on (Closed a b u) i y = y
    stage_on (Found a b u) i y = absurd i
    stage_on (Preparing d a b u t) i y = absurd i
    stage_on (Opened d a b) i y = absurd i
    stage_on (Linked a b) i y = absurd i
    stage_on (Observing a b d n p) i y = absurd i

    abbrev w : View
    w = record v { notes = record v.notes { scan = scan } }

    notes_on : NotesOk f' id (IsWhole v) w.notes
    notes_on = let o = notes_alone g f' k.words.chain first_grows id (IsWhole v) (λ a. (refl, refl)) mine refl v.notes ok.notes in
        record { head = o.head; gone = o.gone; tail = o.tail; newest = o.newest; front = o.front; scan = λ t. known }

    pub first_kept : Kept f (update m First x) (set views id w)
    first_kept = let o = k.words.links.order in kept_after f m (update m First x) views k id v w f' at
        record {
          counts = k.words.counts;
          calls = k.words.calls;
          chain = first_moves g.segs g.low g.last g.taken g.put k.words.chain before_last past;
          ranges = k.words.ranges;
          homes = record { there = k.words.homes.there; chain = λ a l h. k.words.homes.chain a (let y : g.low ≤ a = omega arith in y) h; latest = k.words.homes.latest };
          tails = k.words.tails;
          links = record { first_is = sym is; current_is = k.words.links.current_is; order = (next, o.1, o.2, o.3); next_is = k.words.links.next_is };
          places = k.words.places;
          sizes = k.words.sizes;
          nexts = k.words.nexts;
          slots = k.words.slots;
          strays = k.words.strays;
          dones = k.words.dones;
          observers = k.words.observers;
          bars = k.words.bars;
          turns = k.words.turns;
          preps = let p = k.words.preps in record {
            inside = p.inside;
            lengths = p.lengths;
            apart = λ a n e h. let y = p.apart a n e h in let l = y.0 in ((let z : n < suc g.low = omega arith in z), y.1);
            no_take = p.no_take;
            full = p.full;
            start_is = p.start_is;
            len_is = p.len_is;
            done_is = p.done_is;
            number_is = p.number_is;
            num_is = p.num_is;
          };
        }
        record {
          rely = λ j u other there x. record {
            grows = first_grows;
            holds = λ h. h;
            still = λ a. (refl, refl, refl);
            hand_place = λ a n p e s. (e, s);
            window_place = λ a n p e s. (e, s, refl);
            held = λ a b e. refl;
            given = λ a b e. e;
            turned = λ e. absurd (other (let z : suc j ≡ suc id = sym e ∙ mine in let z' : j ≡ id = omega arith in z'));
            turns = λ e. e;
          };
          mine = record {
            of_object = ok.of_object;
            of_callers = ok.of_callers;
            holds = ok.holds;
            joint = ok.joint;
            notes = notes_on;
            hand = ok.hand;
            ties = ok.ties;
            stage = stage_on v.stage idle ok.stage;
            window = window_fact_stays g f' k.words.chain first_grows k.words.homes v.window (λ a n p e s. (e, s, refl)) ok.window;
            owned = ok.owned;
          };
          paid_by = refl;
          untold_by = λ a. refl;
          watch_by = λ n. refl;
          seated = λ a b j other e. e;
          turned = λ j other e. e;
          seen = ((λ e. e), inr refl);
        }
