-- Turn take and tail close.
use Rattle.std.proofs.Common.{◌≡◌, ℕ, zero, suc, ◌+◌, ◌*◌, ◌^◌, ◌<◌, ◌≤◌, inl, inr, ⊎_elim, true, List, length, get_or, set, sym, refl, ap, ◌∙◌, subst, arith, le_refl}
use mathlib.Core.Option.{some}
use lib.ListN.{get_elem?}
use Rattle.std.specs.Prelude.{Some}
use Rattle.passes.specs.Numbers.{HasNumber, raised}
use Rattle.passes.proofs.Holders.{holder_counts, others_count}
use Rattle.seg_rule.specs.declared.word.QueueWord.TheVariants.{Turn, Tail}
use Rattle.seg_rule.specs.declared.view.View.{View}
use Rattle.seg_rule.specs.declared.view.OpenTail.{OpenTail}
use Rattle.seg_rule.specs.declared.view.Stage.{Stage}
use Rattle.seg_rule.specs.declared.view.Stage.TheVariants.{Away, Plain, Closed, Found, Preparing, Opened, Linked, Observing}
use Rattle.seg_rule.specs.Words.{Memory, update}
use Rattle.seg_rule.specs.declared.form.Form.{Form}
use Rattle.seg_rule.specs.Rule.{Ghosts, IsWhole, TailSeen, TailFact, StageOk, ViewOk, Kept, flag}
use Rattle.seg_rule.specs.Rely.{Grows}
use Rattle.seg_rule.specs.Steps.{MayTurn, turned, on_stage}
use Rattle.seg_rule.proofs.Chains.{not_stale}
use Rattle.seg_rule.proofs.Stays.{blank_ok, notes_alone, window_fact_stays}
use Rattle.seg_rule.proofs.Frames.{kept_after}
use Rattle.seg_rule.proofs.Entries.{calls_counted}
use Rattle.seg_rule.proofs.Tails.{tail_even, tails_put}

-- whoever has the turn is named by the turn word
turn_caller : (g : Ghosts) (j : ℕ) (active : Type 0) (c : ℕ) (s : Stage) → StageOk g j active c s → g.turn ≡ suc j → g.called ≡ suc c
turn_caller g j active c Away x t = absurd (x t)
turn_caller g j active c Plain x t = x.0.1
turn_caller g j active c (Closed q p u) x t = x.0.1
turn_caller g j active c (Preparing d q s n w) x t = x.0.1
turn_caller g j active c (Found q p a) x t = x.0.1
turn_caller g j active c (Opened d q p) x t = x.0.1
turn_caller g j active c (Linked q p) x t = x.0.1
turn_caller g j active c (Observing q p b n r) x t = x.0.1

-- a step that touches the turn alone, and the counts of calls
pub turn_grows : (g : Ghosts) (made : List ℕ) (paid turn called shut : ℕ) → Grows g (record g { made = made; paid = paid; turn = turn; called = called; shut = shut })
turn_grows g made paid turn called shut = record {
  values = λ p x e. e;
  putters = λ p x e. e;
  put_up = le_refl _;
  taken_up = le_refl _;
  segs = λ n l. refl;
  last_up = le_refl _;
  linked_up = le_refl _;
  opens = λ l. let l' : suc g.last ≤ g.last = l in absurd (omega arith);
  bar_up = λ n. le_refl _;
  free_stays = λ a b e. inr (inl e);
  full_stays = λ a b n l l' e s z. inr (l, z);
  kept = λ a b n e p l s. (refl, le_refl _);
}

module _ (f : Form) (m : Memory) (views : List View) (id : ℕ) (v : View) (k : Kept f m views) (at : get_elem? views id ≡ some v) where
  abbrev g : Ghosts
  g = k.g

  abbrev ok : ViewOk f g id v
  ok = k.seats.each id v at

  abbrev active : Type 0
  active = HasNumber v.held v.caller

  nobody : m Turn ≡ 0 → g.turn ≡ 0
  nobody blank_word = go g.turn refl
    where
      go : (z : ℕ) → g.turn ≡ z → g.turn ≡ 0
      go zero e = e
      go (suc j) e = absurd (let u = k.seats.turned j e in let x = k.seats.each j u.0 u.1 in
          let c = turn_caller g j (HasNumber u.0.held u.0.caller) u.0.caller u.0.stage x.stage e in let w = k.words.turns.word_is in omega arith)

  -- turn take
  pub turn_kept : MayTurn v → m Turn ≡ 0 → Kept f (update m Turn (suc v.caller)) (set views id (turned v))
  turn_kept may blank_word =
      let none = nobody blank_word in let rest = k.words.turns.idle none in let own = ok.holds.owns v.caller may.active in let c : ℕ = v.caller in
      let inside : c < length g.made = (let z = k.words.calls.sized in omega arith) in let small : c < 64 = (let z = k.words.calls.small in omega arith) in
      let agree = ok.holds.agrees c may.active in let less : get_or g.made c 0 < 2 ^ 48 = subst (λ (z : ℕ). z < 2 ^ 48) agree may.below in
      let made' : List ℕ = raised g.made c in let grows = turn_grows g made' (suc g.paid) (suc id) (suc c) g.shut in
      let g' : Ghosts = record g { made = made'; paid = suc g.paid; turn = suc id; called = suc c; shut = g.shut } in
      kept_after f m (update m Turn (suc c)) views k id v (turned v) g' at
      record {
        counts = k.words.counts;
        calls = calls_counted f g.log g.made g.paid k.words.calls c own.1 less;
        chain = k.words.chain;
        ranges = k.words.ranges;
        homes = k.words.homes;
        tails = k.words.tails;
        links = k.words.links;
        places = k.words.places;
        sizes = k.words.sizes;
        nexts = k.words.nexts;
        slots = k.words.slots;
        strays = k.words.strays;
        dones = k.words.dones;
        observers = k.words.observers;
        bars = k.words.bars;
        turns = record { word_is = refl; idle = λ e. absurd (let z : suc id ≡ 0 = e in omega arith); calm = k.words.turns.calm; bit = k.words.turns.bit };
        preps = k.words.preps;
      }
      record {
        rely = λ j u other there x. record {
          grows = grows;
          holds = λ h. others_count f.callers g.log g.made g.owner j u.held u.made u.seen h id c inside other own.0;
          still = λ a. (refl, refl, refl);
          hand_place = λ a n p e s. (e, s);
          window_place = λ a n p e s. (e, s, refl);
          held = λ a b e. refl;
          given = λ a b e. e;
          turned = λ t. absurd (let z : 0 ≡ suc j = sym none ∙ t in omega arith);
          turns = λ t. absurd (other (let z : suc id ≡ suc j = t in let z' : j ≡ id = omega arith in z'));
        };
        mine = record {
          of_object = ok.of_object;
          of_callers = ok.of_callers;
          holds = holder_counts f.callers g.log g.made g.owner id v.held v.made v.seen ok.holds c inside small may.active;
          joint = ok.joint;
          notes = blank_ok g' id (IsWhole v);
          hand = ok.hand;
          ties = ok.ties;
          stage = ((refl, refl, may.active), rest.1, rest.2, rest.3);
          window = window_fact_stays g g' k.words.chain grows k.words.homes v.window (λ a n p e s. (e, s, refl)) ok.window;
          owned = ok.owned;
        };
        paid_by = let z : flag v.paid ≡ 0 = ap flag may.unpaid in omega arith;
        untold_by = λ a. refl;
        watch_by = λ n. refl;
        seated = λ a b j other e. e;
        turned = λ j other e. absurd (other (let z : suc id ≡ suc j = e in let z' : j ≡ id = omega arith in z'));
        seen = ((λ e. e), inr refl);
      }

  -- the last place of the chain is where an even tail stands
  pub last_place : (q t : ℕ) (o : OpenTail) → o.place ≡ q → o.position ≡ t → TailSeen g (IsWhole v) o → m (Tail q) ≡ 2 * t → (g.home q ≡ suc g.last) × (g.put ≡ t) × (g.shut ≡ 0) × ((g.segs g.last).place ≡ q)
  last_place q t o at_q at_t s now =
      let near : q < f.places = subst (λ (z : ℕ). z < f.places) (s.there.there ∙ at_q) (k.words.ranges.placed s.segment s.there.opened) in
      let e = tail_even g.segs g.last g.put g.shut (g.home q) t (sym (k.words.tails q near) ∙ now) k.words.turns.bit in
      (e.0, e.1, e.2, (k.words.homes.there q g.last e.0).1)

  -- tail close: whether the segment was seen full is kept
  pub closed_kept : (q t : ℕ) (o : OpenTail) → v.stage ≡ Plain → v.notes.tail ≡ Some o → o.place ≡ q → o.position ≡ t → m (Tail q) ≡ 2 * t → Kept f (update m (Tail q) (2 * t + 1)) (set views id (on_stage v (Closed q t o.full)))
  closed_kept q t o plain noted at_q at_t now =
      let s : TailSeen g (IsWhole v) o = subst (TailFact g (IsWhole v)) noted ok.notes.tail in let l = last_place q t o at_q at_t s now in
      let st : StageOk g id active v.caller Plain = subst (StageOk g id active v.caller) plain ok.stage in
      let grows = turn_grows g g.made g.paid g.turn g.called 1 in let g' : Ghosts = record g { made = g.made; paid = g.paid; turn = g.turn; called = g.called; shut = 1 } in
      kept_after f m (update m (Tail q) (2 * t + 1)) views k id v (on_stage v (Closed q t o.full)) g' at
      record {
        counts = k.words.counts;
        calls = k.words.calls;
        chain = k.words.chain;
        ranges = k.words.ranges;
        homes = k.words.homes;
        tails = tails_put (λ p. m (Tail p)) f.places g.segs g.last g.put g.shut g.put 1 g.home q (2 * t + 1) l.0 (λ p e. sym (k.words.homes.there p g.last e).1 ∙ l.3) (let z = l.1 in omega arith) k.words.tails;
        links = k.words.links;
        places = k.words.places;
        sizes = k.words.sizes;
        nexts = k.words.nexts;
        slots = k.words.slots;
        strays = k.words.strays;
        dones = k.words.dones;
        observers = k.words.observers;
        bars = k.words.bars;
        turns = record { word_is = k.words.turns.word_is; idle = λ e. absurd (let z : 0 ≡ suc id = sym e ∙ st.0.0 in omega arith); calm = λ e. absurd (let z : 1 ≡ 0 = e in omega arith); bit = let z : 1 ≤ 1 = omega arith in z };
        preps = k.words.preps;
      }
      record {
        rely = λ j u other there x. record {
          grows = grows;
          holds = λ h. h;
          still = λ a. (refl, refl, refl);
          hand_place = λ a n p e s. (e, s);
          window_place = λ a n p e s. (e, s, refl);
          held = λ a b e. refl;
          given = λ a b e. e;
          turned = λ e. absurd (other (let z : suc j ≡ suc id = sym e ∙ st.0.0 in let z' : j ≡ id = omega arith in z'));
          turns = λ e. e;
        };
        mine = record {
          of_object = ok.of_object;
          of_callers = ok.of_callers;
          holds = ok.holds;
          joint = ok.joint;
          notes = notes_alone g g' k.words.chain grows id (IsWhole v) (λ a. (refl, refl)) st.0.0 refl v.notes ok.notes;
          hand = ok.hand;
          ties = ok.ties;
          stage = (st.0, refl, st.2, st.3, l.1, l.3, λ b. full_there s l b);
          window = window_fact_stays g g' k.words.chain grows k.words.homes v.window (λ a n p e s. (e, s, refl)) ok.window;
          owned = ok.owned;
        };
        paid_by = refl;
        untold_by = λ a. refl;
        watch_by = λ n. refl;
        seated = λ a b j other e. e;
        turned = λ j other e. e;
        seen = ((λ e. e), inr refl);
      }
    where
      full_there : (s : TailSeen g (IsWhole v) o) → (g.home q ≡ suc g.last) × (g.put ≡ t) × (g.shut ≡ 0) × ((g.segs g.last).place ≡ q) → o.full ≡ true → (g.segs g.last).start + (g.segs g.last).len ≤ t
      full_there s l b = ⊎_elim (λ (z : o.position < g.put). absurd (let a = l.1 in omega arith))
          (λ (z : (g.segs s.segment).start + (g.segs s.segment).len ≤ o.position).
          let e : s.segment ≡ g.last = not_stale g.segs g.low g.last g.taken g.put k.words.chain o.place o.position s.segment s.there (l.3 ∙ sym at_q) (l.1 ∙ sym at_t) in
          subst (λ (y : ℕ). (g.segs y).start + (g.segs y).len ≤ t) e (subst (λ (y : ℕ). (g.segs s.segment).start + (g.segs s.segment).len ≤ y) at_t z))
          (s.turned b)
