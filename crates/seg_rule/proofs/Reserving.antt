-- Tail reserve.
use Rattle.std.proofs.Common.{◌≡◌, ℕ, suc, ◌+◌, ◌-◌, ◌*◌, ◌%◌, ◌^◌, ◌<◌, ◌≤◌, ◌≢◌, ◌⊎◌, inl, inr, ⊎_elim, ltb, cond, Bool, true, false, List, [], ◌∷◌, ◌++◌, length, get_or, set, sym, refl, ap, ◌∙◌, subst, arith, le_refl, mod-lt, length-append, eq-eqb, ne_eqb}
use Rattle.std.proofs.lemmas.Bool.{cases_lt, cases_eq, lt-ltb}
use mathlib.Core.Option.{some}
use lib.ListN.{get_elem?}
use Rattle.atomic_table.proofs.Lists.{at_longer, at_last}
use Rattle.ho_model.specs.declared.marks.EntryMark.{EntryMark}
use Rattle.ho_model.specs.declared.marks.CallMark.TheVariants.{Enq}
use Rattle.ho_model.specs.declared.marks.ReplyMark.TheVariants.{Done}
use Rattle.ho_model.specs.Entries.{entry}
use Rattle.passes.specs.Numbers.{HasNumber}
use Rattle.seg_rule.specs.declared.word.QueueWord.TheVariants.{Tail, Start, Length, Segment, Number, Item}
use Rattle.seg_rule.specs.declared.word.QueueWord.TheVariants as word
use Rattle.seg_rule.specs.declared.view.View.{View}
use Rattle.seg_rule.specs.declared.view.OpenTail.{OpenTail}
use Rattle.seg_rule.specs.declared.view.Hand.{Hand}
use Rattle.seg_rule.specs.declared.view.Hand.TheVariants.{Nothing, Reserved}
use Rattle.seg_rule.specs.declared.view.Stage.{Stage}
use Rattle.seg_rule.specs.declared.view.Stage.TheVariants.{Away, Plain, Closed, Found, Preparing, Opened, Linked, Observing}
use Rattle.seg_rule.specs.Words.{Memory, update}
use Rattle.seg_rule.proofs.Lawful.{entry_lawful, put_counted}
use Rattle.seg_rule.proofs.Object.{enqueue_next}
use Rattle.seg_rule.specs.Chain.{Segs}
use Rattle.seg_rule.specs.Slots.{free, writing, Cell, up, holder}
use Rattle.seg_rule.specs.Places.{put_at}
use Rattle.seg_rule.specs.declared.form.Form.{Form}
use Rattle.seg_rule.specs.Rule.{Ghosts, IsWhole, HeadNote, TailSeen, TailFact, InHand, StageOk, ViewOk, DonesOk, passed, Words, Kept, takes_at, takes_in, flag, paid_of}
use Rattle.seg_rule.specs.Rely.{StaysIn, Grows, Rely}
use Rattle.seg_rule.specs.Steps.{count_made, MayCount, entered, fit_tail, MayReserve, Reserves}
use Rattle.seg_rule.proofs.Chains.{not_stale, more_put}
use Rattle.seg_rule.proofs.Places.{at_here, reserve_slots}
use Rattle.seg_rule.proofs.Stays.{blank_ok, window_fact_stays}
use Rattle.seg_rule.proofs.Frames.{kept_after, own_loose, each_slot, put_full, put_kept, put_held, put_given}
use Rattle.seg_rule.proofs.Sums.{total_part}
use Rattle.seg_rule.proofs.Entries.{own_enters, others_entered, calls_entered, whole_alone}
use Rattle.seg_rule.proofs.Preps.{no_prep}
use Rattle.seg_rule.proofs.Tails.{tails_put}
use Rattle.seg_rule.proofs.Turns.{last_place}

-- the counts of takes do not see the tail
passed_put : (h s t : ℕ) → h ≤ t → passed h s t ≡ passed h s (suc t)
passed_put h s t le = ⊎_elim
    (λ (l : h < t). ap (λ b. cond b (h - s) (t - s)) (lt-ltb h t l) ∙ sym (ap (λ b. cond b (h - s) (suc t - s)) (lt-ltb h (suc t) (omega arith))))
    (λ (l : t ≤ h). let e : t ≡ h = omega arith in below (ltb h t) (ap (λ z. z - s) e) ∙ sym (ap (λ b. cond b (h - s) (suc t - s)) (lt-ltb h (suc t) (omega arith))))
    (cases_lt h t)
  where
    below : (b : Bool) → t - s ≡ h - s → cond b (h - s) (t - s) ≡ h - s
    below true e = refl
    below false e = e

dones_put : (done untold : ℕ → ℕ) (segs : Segs) (last put taken : ℕ) (home : ℕ → ℕ) (prep : ℕ) → taken ≤ put → DonesOk done untold segs last put taken home prep → DonesOk done untold segs last (suc put) taken home prep
dones_put done untold segs last put taken home prep le ok q n at other = ok q n at other ∙ ⊎_elim
    (λ (e : n ≡ last). ap (λ b. passed taken ((segs n).start) (cond b put ((segs (suc n)).start))) (eq-eqb n last e) ∙ (passed_put taken ((segs n).start) put le ∙ sym (ap (λ b. passed taken ((segs n).start) (cond b (suc put) ((segs (suc n)).start))) (eq-eqb n last e))))
    (λ (ne : n ≢ last). ap (λ b. passed taken ((segs n).start) (cond b put ((segs (suc n)).start))) (ne_eqb n last ne) ∙ sym (ap (λ b. passed taken ((segs n).start) (cond b (suc put) ((segs (suc n)).start))) (ne_eqb n last ne)))
    (cases_eq n last)

module _ (f : Form) (m : Memory) (views : List View) (id : ℕ) (v : View) (k : Kept f m views) (at : get_elem? views id ≡ some v) where
  abbrev g : Ghosts
  g = k.g

  abbrev ok : ViewOk f g id v
  ok = k.seats.each id v at

  abbrev active : Type 0
  active = HasNumber v.held v.caller

  abbrev e : ℕ → EntryMark
  e x = entry v.caller (Enq (x ∷ [])) Done

  module _ (q x : ℕ) where
    abbrev n : ℕ
    n = (g.segs g.last).len

    abbrev i : ℕ
    i = g.put % n

    abbrev c : Cell
    c = (g.put, writing id)

    abbrev g' : Ghosts
    g' = record g {
      log = g.log ++ e x ∷ [];
      made = count_made v.paid g.made v.caller;
      paid = g.paid - flag v.paid;
      values = g.values ++ (x ∷ []) ∷ [];
      putters = g.putters ++ v.caller ∷ [];
      put = suc g.put;
      cells = put_at g.cells q i c;
    }

    abbrev w : View
    w = entered v g.log (e x) (Reserved g.put q i x)

    module _ (idle : v.hand ≡ Nothing) (may : MayCount v) (at_q : (g.segs g.last).place ≡ q) (is : g.cells q i ≡ (g.put, free)) (unshut : g.shut ≡ 0) (room : g.put < g.taken + f.room) where
      two : 2 ≤ n
      two = k.words.chain.some_slot g.last (le_refl _)

      near : i < n
      near = let t = two in mod-lt g.put (omega arith)

      home_q : g.home q ≡ suc g.last
      home_q = subst (λ (z : ℕ). g.home z ≡ suc g.last) at_q (k.words.homes.chain g.last k.words.chain.inside (le_refl _))

      no_hold : (j : ℕ) → holder (g.cells q i).1 ≢ suc j
      no_hold j e = let z : 0 ≡ suc j = sym (ap (λ (y : Cell). holder y.1) is) ∙ e in omega arith

      grows : Grows g g'
      grows = record {
        values = λ p y s. at_longer g.values ((x ∷ []) ∷ []) p y s;
        putters = λ p y s. at_longer g.putters (v.caller ∷ []) p y s;
        put_up = let z : g.put ≤ suc g.put = omega arith in z;
        taken_up = le_refl _;
        segs = λ a l. refl;
        last_up = le_refl _;
        linked_up = le_refl _;
        opens = λ l. let l' : suc g.last ≤ g.last = l in absurd (omega arith);
        bar_up = λ a. le_refl _;
        free_stays = λ a b s. inl (le_refl _);
        full_stays = λ a b y l l' s t. put_full g q i c (g.taken < g.taken) (λ z. absurd (let u : 0 ≡ 1 = sym (ap (λ (y : Cell). up y.1) is) ∙ ap (λ (y : Cell). up y.1) z in omega arith)) a b y l;
        kept = λ a b y s p l. put_kept g q i c (λ o z r. subst (λ (y : Cell). StaysIn y c) (sym is) (refl, le_refl _)) a b y s;
      }

      own : (g.owner v.caller ≡ id) × (v.caller < f.callers)
      own = ok.holds.owns v.caller may.0

      inside : v.caller < length g.made
      inside = let z = k.words.calls.sized in let y = own.1 in omega arith

      small : v.caller < 64
      small = let z = k.words.calls.small in let y = own.1 in omega arith

      paid_part : flag v.paid ≤ g.paid
      paid_part = let a = total_part paid_of views id v at in let b = k.seats.paid_is in omega arith

      others : (j : ℕ) (u : View) → j ≢ id → ViewOk f g j u → Rely f j u g g'
      others j u other y = record {
        grows = grows;
        holds = λ h. others_entered f.callers g.log g.made g.owner j u.held u.made u.seen h (e x) id v.caller inside other own.0 refl v.paid;
        still = λ a. absurd (other (whole_alone f g j id u v y ok a may.0));
        hand_place = λ a b p s t. (s, t);
        window_place = λ a b p s t. (s, t, refl);
        held = put_held g q i c id j other (λ j' o. no_hold j');
        given = put_given g q i c id j other (own_loose id c refl);
        turned = λ t. record { turn = refl; called = refl; shut = refl; prep = refl; plan = refl; written = refl; now = refl; linked = refl; watch = λ n. le_refl _; untold = λ q o. le_refl _; last = refl; low = refl; home = λ a. refl; put = λ s. absurd (let z : 0 ≡ 1 = sym unshut ∙ s in omega arith) };
        turns = λ t. t;
      }

      mine : ViewOk f g' id w
      mine = record {
        of_object = ok.of_object;
        of_callers = ok.of_callers;
        holds = own_enters f.callers g.log g.made g.owner id v.held v.made v.seen ok.holds (e x) v.caller inside (let z = k.words.calls.small in let y = own.1 in omega arith) may.0 v.paid;
        joint = tt;
        notes = blank_ok g' id (IsWhole v);
        hand = (may.0, (g.last, (home_q, (λ s. last_free s), near)), at_here g.cells q i c, at_last g.values (x ∷ []) g.put k.words.counts.sized, at_last g.putters v.caller g.put k.words.counts.sized_by);
        ties = each_slot g.cells q i c (λ a b d. holder d.1 ≡ suc id → InHand (Reserved g.put q i x) a b) (λ s. (refl, refl)) (λ a b y s. absurd (subst (λ (z : Hand). InHand z a b) idle (ok.ties a b s)));
        stage = stage_on v.stage ok.stage;
        window = window_fact_stays g g' k.words.chain grows k.words.homes v.window (λ a b p s t. (s, t, refl)) ok.window;
        owned = ok.owned;
      }
        where
          last_free : g.prep ≡ suc q → ⊥
          last_free s = let a = k.words.preps.apart q g.last s home_q in let b = k.words.chain.inside in let d = a.0 in omega arith

          stage_on : (s : Stage) → StageOk g id active v.caller s → StageOk g' id active v.caller s
          stage_on Away y = y
          stage_on Plain y = y
          stage_on (Closed a b u) y = absurd (let z : 0 ≡ 1 = sym unshut ∙ y.1 in omega arith)
          stage_on (Preparing d a b u t) y = absurd (let z : 0 ≡ 1 = sym unshut ∙ y.1 in omega arith)
          stage_on (Found a b u) y = absurd (let z : 0 ≡ 1 = sym unshut ∙ y.1 in omega arith)
          stage_on (Opened d a b) y = y
          stage_on (Linked a b) y = y
          stage_on (Observing a b d n p) y = absurd (let z : 0 ≡ 1 = sym unshut ∙ y.1 in omega arith)

      words : Words f (update m (Tail q) (2 * suc g.put)) g'
      words = record {
        counts = record {
          head_is = k.words.counts.head_is;
          behind = let z = k.words.counts.behind in let y : g.taken ≤ suc g.put = omega arith in y;
          within = let z = room in let y : suc g.put ≤ g.taken + f.room = omega arith in y;
          sized = let z = k.words.counts.sized in let y = length-append g.values ((x ∷ []) ∷ []) in omega arith;
          sized_by = let z = k.words.counts.sized_by in let y = length-append g.putters (v.caller ∷ []) in omega arith;
          stands = enqueue_next f.room f.first_len g.log g.values g.putters g.taken v.caller k.words.counts.stands small x (let z = k.words.counts.sized in let y = room in omega arith);
        };
        calls = calls_entered f g.log g.made g.paid k.words.calls (e x) v.caller own.1 refl v.paid paid_part (count_may may.1);
        chain = more_put g.segs g.low g.last g.taken g.put k.words.chain;
        ranges = k.words.ranges;
        homes = k.words.homes;
        tails = tails_put (λ p. m (Tail p)) f.places g.segs g.last g.put g.shut (suc g.put) g.shut g.home q (2 * suc g.put) home_q (λ p s. sym (k.words.homes.there p g.last s).1 ∙ at_q) (let z = unshut in omega arith) k.words.tails;
        links = k.words.links;
        places = k.words.places;
        sizes = k.words.sizes;
        nexts = k.words.nexts;
        slots = reserve_slots (λ a b. m (Number a b)) (λ a b. m (Item a b)) g.values (g.values ++ (x ∷ []) ∷ []) g.taken g.put g.segs g.low g.last g.home g.cells g.prep id q k.words.chain k.words.homes (λ p y s. at_longer g.values ((x ∷ []) ∷ []) p y s) (sym at_q) is
            k.words.counts.behind k.words.slots;
        strays = k.words.strays;
        dones = dones_put (λ a. m (word.Done a)) g.untold g.segs g.last g.put g.taken g.home g.prep k.words.counts.behind k.words.dones;
        observers = k.words.observers;
        bars = k.words.bars;
        turns = k.words.turns;
        preps = no_prep (λ a. m (Start a)) (λ a. m (Length a)) (λ a. m (word.Done a)) (λ a. m (Segment a)) (λ a b. m (Number a b)) f g.segs g.low g.last (suc g.put) g.home g.untold g.watch g.prep g.plan g.written (k.words.turns.calm unshut);
      }
        where
          count_may : (v.paid ≡ true) ⊎ (get_or v.made v.caller 0 < 2 ^ 48) → (v.paid ≡ true) ⊎ (get_or g.made v.caller 0 < 2 ^ 48)
          count_may y = ⊎_elim (λ b. inl b) (λ (l : get_or v.made v.caller 0 < 2 ^ 48). inr (subst (λ (z : ℕ). z < 2 ^ 48) (ok.holds.agrees v.caller may.0) l)) y

      pub reserved_here : Kept f (update m (Tail q) (2 * suc g.put)) (set views id w)
      reserved_here = kept_after f m (update m (Tail q) (2 * suc g.put)) views k id v w g' at words record {
        rely = λ j u other there y. others j u other y;
        mine = mine;
        paid_by = let z = paid_part in let y : (g.paid - flag v.paid) + flag v.paid ≡ g.paid + 0 = omega arith in y;
        untold_by = λ a. let z : takes_in a v ≡ 0 = ap (takes_at a) idle in let y : g.untold a + takes_in a v ≡ g.untold a + 0 = omega arith in y;
        watch_by = λ a. refl;
        seated = λ a b j other s. put_given g q i c id j other (own_loose id c refl) a b s;
        turned = λ j other s. s;
        seen = ((λ s. refl), inl refl);
      }

  -- with the numbers that the pass has read
  pub reserved_kept : (q t n x : ℕ) → MayReserve f.room v q t n → m (Tail q) ≡ 2 * t
      → (w : View) × Kept f (update m (Tail q) (2 * suc t)) (set views id w) × Reserves v q t (t % n) x w
  reserved_kept q t n x may now =
      let o : OpenTail = fit_tail q t n may.number may.full in
      let s : TailSeen g (IsWhole v) o = subst (TailFact g (IsWhole v)) may.tail ok.notes.tail in
      let l = last_place f m views id v k at q t o refl refl s now in
      let head : (may.head ≤ g.taken) × (IsWhole v → may.head ≡ g.taken) = subst (HeadNote g (IsWhole v)) may.noted ok.notes.head in
      let seg : s.segment ≡ g.last = not_stale g.segs g.low g.last g.taken g.put k.words.chain q t s.segment s.there l.3 l.1 in
      let len : n ≡ (g.segs g.last).len = ⊎_elim (λ (z : t < g.put). absurd (let y = l.1 in omega arith)) (λ (z : n ≡ (g.segs s.segment).len). z ∙ ap (λ (y : ℕ). (g.segs y).len) seg) (s.sized n refl) in
      let slot : g.cells q (t % n) ≡ (t, free) = ⊎_elim (λ (z : t < g.put). absurd (let y = l.1 in omega arith)) (λ z. z) (s.slot n refl refl) in
      let is : g.cells q (g.put % (g.segs g.last).len) ≡ (g.put, free) = subst (λ (z : ℕ × ℕ). g.cells q (z.0 % z.1) ≡ (z.0, free)) (λ j. (sym l.1 j, len j)) slot in
      let room : g.put < g.taken + f.room = (let a = may.room_there in let b = head.0 in let d = l.1 in omega arith) in
      let w' : View = entered v g.log (e x) (Reserved g.put q (g.put % (g.segs g.last).len) x) in
      let there : Kept f (update m (Tail q) (2 * suc g.put)) (set views id w') = reserved_here q x may.idle may.may l.3 is l.2 room in
      let behind = ok.holds.behind in (
        w',
        subst (λ (z : ℕ). Kept f (update m (Tail q) (2 * suc z)) (set views id w')) l.1 there,
        record {
          before = g.log;
          seen = (behind, refl);
          lawful = entry_lawful f m views id v k at (e x) (ok.holds.owns v.caller may.may.0).1 (g.values ++ (x ∷ []) ∷ []) (g.putters ++ v.caller ∷ []) g.taken
              (enqueue_next f.room f.first_len g.log g.values g.putters g.taken v.caller k.words.counts.stands (let a = (ok.holds.owns v.caller may.may.0).1 in let b = k.words.calls.small in omega arith) x (let a = k.words.counts.sized in omega arith));
          counted = put_counted f m views id v k at ∙ l.1;
          left = λ j. entered v g.log (e x) (Reserved (l.1 j) q (l.1 j % sym len j) x);
        },
      )
