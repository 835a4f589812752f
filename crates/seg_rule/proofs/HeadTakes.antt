-- Head take.
use Rattle.std.proofs.Common.{◌≡◌, ℕ, suc, ◌+◌, ◌-◌, ◌%◌, ◌^◌, ◌<◌, ◌≤◌, ◌≢◌, ◌⊎◌, inl, inr, ⊎_elim, eqb, ltb, cond, Bool, true, false, List, [], ◌∷◌, ◌++◌, length, get_or, set, sym, refl, ap, ◌∙◌, subst, arith, le_trans, le_refl, eq-eqb, ne_eqb}
use Rattle.std.proofs.lemmas.Bool.{cases_lt, cases_eq, lt-ltb, ltb-true, cases_Bool}
use mathlib.Core.Option.{some}
use lib.ListN.{get_elem?}
use Rattle.ho_model.specs.declared.marks.ReplyMark.TheVariants as reply
use Rattle.ho_model.specs.declared.marks.EntryMark.{EntryMark}
use Rattle.ho_model.specs.declared.marks.CallMark.TheVariants.{Deq}
use Rattle.ho_model.specs.Entries.{entry}
use Rattle.passes.specs.Numbers.{HasNumber}
use Rattle.seg_rule.specs.declared.word.QueueWord.TheVariants.{Head, Start, Length, Done, Segment, Number, Item}
use Rattle.seg_rule.specs.declared.view.View.{View}
use Rattle.seg_rule.specs.declared.view.Leave.TheVariants.{Unread}
use Rattle.seg_rule.specs.declared.view.Hand.{Hand}
use Rattle.seg_rule.specs.declared.view.Hand.TheVariants.{Nothing, Taking}
use Rattle.seg_rule.specs.declared.view.Stage.{Stage}
use Rattle.seg_rule.specs.declared.view.Stage.TheVariants.{Away, Plain, Closed, Found, Preparing, Opened, Linked, Observing}
use Rattle.seg_rule.specs.Words.{Memory, update}
use Rattle.seg_rule.proofs.Lawful.{entry_lawful, taken_counted}
use Rattle.seg_rule.proofs.Object.{take_next}
use Rattle.seg_rule.specs.Chain.{Segs, ChainOk, end_of}
use Rattle.seg_rule.specs.Slots.{full, reading, Cell, up, holder, SlotOk}
use Rattle.seg_rule.specs.Places.{HomeOk, put_at, put_in}
use Rattle.seg_rule.specs.declared.form.Form.{Form}
use Rattle.seg_rule.specs.Rule.{Ghosts, IsWhole, FrontSeen, FrontFact, InHand, StageOk, ViewOk, DonesOk, passed, Words, Kept, takes_at, flag, paid_of, OutOfChain}
use Rattle.seg_rule.specs.Rely.{StaysIn, Grows, Rely}
use Rattle.seg_rule.specs.Steps.{count_made, MayCount, entered, front_of, MayTake, Takes}
use Rattle.seg_rule.proofs.Chains.{rises, more_taken}
use Rattle.seg_rule.proofs.Places.{at_here}
use Rattle.seg_rule.proofs.Stays.{blank_ok, window_fact_stays}
use Rattle.seg_rule.proofs.Frames.{kept_after, own_loose, each_slot, put_free, put_kept, put_held, put_given, slots_change}
use Rattle.seg_rule.proofs.Sums.{total_part}
use Rattle.seg_rule.proofs.Entries.{own_enters, others_entered, calls_entered, whole_alone}
use Rattle.seg_rule.proofs.Preps.{prep_takes}

-- the ends of a segment, in the chain or before it
end_at : (segs : Segs) (last t n : ℕ) → n ≢ last → end_of segs last t n ≡ (segs (suc n)).start
end_at segs last t n ne = ap (λ b. cond b t ((segs (suc n)).start)) (ne_eqb n last ne)

-- a position lies in one segment
module _ (segs : Segs) (low last h t : ℕ) (c : ChainOk segs low last h t) where
  before : (a b p : ℕ) → a < b → b ≤ last → p < end_of segs last t a → (segs b).start ≤ p → ⊥
  before a b p l b' under over = let ne : a ≢ last = (λ s. omega arith) in let u : p < (segs (suc a)).start = subst (λ (z : ℕ). p < z) (end_at segs last t a ne) under in
      let r = rises segs low last h t c (suc a) b l b' in omega arith

  pub one_segment : (a b p : ℕ) → a ≤ last → b ≤ last → (segs a).start ≤ p → p < end_of segs last t a → (segs b).start ≤ p → p < end_of segs last t b → a ≡ b
  one_segment a b p a' b' over under over' under' = ⊎_elim (λ (l : a < b). absurd (before a b p l b' under over'))
      (λ (l : b ≤ a). ⊎_elim (λ (l' : b < a). absurd (before b a p l' a' under' over)) (λ (l' : a ≤ b). let e : a ≡ b = omega arith in e) (cases_lt b a)) (cases_lt a b)

-- how many positions of a segment are below the head, when the head moves on
passed_in : (h s t : ℕ) → s ≤ h → h < t → passed (suc h) s t ≡ suc (passed h s t)
passed_in h s t a b = let x : passed h s t ≡ h - s = ap (λ z. cond z (h - s) (t - s)) (lt-ltb h t b) in
    let y : passed (suc h) s t ≡ suc h - s = ⊎_elim (λ (l : suc h < t). ap (λ z. cond z (suc h - s) (t - s)) (lt-ltb (suc h) t l)) (λ (l : t ≤ suc h). same (ltb (suc h) t) (let e : t - s ≡ suc h - s = omega arith in e)) (cases_lt (suc h) t) in
    let z : suc h - s ≡ suc (h - s) = omega arith in y ∙ (z ∙ sym (ap suc x))
  where
    same : (b : Bool) → t - s ≡ suc h - s → cond b (suc h - s) (t - s) ≡ suc h - s
    same true e = refl
    same false e = e

pub passed_low : (h s t : ℕ) → h ≤ s → s ≤ t → passed h s t ≡ 0
passed_low h s t a b = ⊎_elim (λ (l : h < t). ap (λ z. cond z (h - s) (t - s)) (lt-ltb h t l) ∙ (let e : h - s ≡ 0 = omega arith in e))
    (λ (l : t ≤ h). both (ltb h t) (omega arith) (omega arith)) (cases_lt h t)
  where
    both : (b : Bool) → h - s ≡ 0 → t - s ≡ 0 → cond b (h - s) (t - s) ≡ 0
    both true x y = x
    both false x y = y

pub passed_high : (h s t : ℕ) → t ≤ h → passed h s t ≡ t - s
passed_high h s t a = ⊎_elim (λ (e : ltb h t ≡ true). absurd (let y = ltb-true h t e in omega arith)) (λ (e : ltb h t ≡ false). ap (λ z. cond z (h - s) (t - s)) e) (cases_Bool (ltb h t))

passed_out : (h s t : ℕ) → s ≤ t → (h < s) ⊎ (t ≤ h) → passed (suc h) s t ≡ passed h s t
passed_out h s t le out = ⊎_elim (λ (l : h < s). passed_low (suc h) s t l le ∙ sym (passed_low h s t (omega arith) le)) (λ (l : t ≤ h). passed_high (suc h) s t (omega arith) ∙ sym (passed_high h s t l)) out

-- the count of takes of each place, where the one of the head in the place q is begun
module _ (segs : Segs) (low last taken put : ℕ) (home : ℕ → ℕ) (c : ChainOk segs low last taken put) (hm : HomeOk segs low last home) (q n : ℕ) (at_q : home q ≡ suc n) (over : (segs n).start ≤ taken) (under : taken < end_of segs last put n) where
  begins_end : (a : ℕ) → a ≤ last → (segs a).start ≤ end_of segs last put a
  begins_end a l = ⊎_elim (λ (s : a ≡ last). subst (λ (z : ℕ). (segs a).start ≤ z) (sym (ap (λ b. cond b put ((segs (suc a)).start)) (eq-eqb a last s))) (subst (λ (z : ℕ). (segs z).start ≤ put) (sym s) c.ends))
      (λ (ne : a ≢ last). let f = c.follows a (omega arith) in subst (λ (z : ℕ). (segs a).start ≤ z) (sym (end_at segs last put a ne)) (let u : (segs a).start ≤ (segs (suc a)).start = omega arith in u)) (cases_eq a last)

  same_place : (q' a : ℕ) → home q' ≡ suc a → n ≡ a → q ≡ q'
  same_place q' a s e = sym (hm.there q n at_q).1 ∙ (ap (λ z. (segs z).place) e ∙ (hm.there q' a s).1)

  same_segment : (q' a : ℕ) → home q' ≡ suc a → q ≡ q' → n ≡ a
  same_segment q' a s e = let z : suc n ≡ suc a = sym at_q ∙ (ap home e ∙ s) in omega arith

  pub dones_taken : (done untold : ℕ → ℕ) (prep : ℕ) → DonesOk done untold segs last put taken home prep → DonesOk done (put_in untold q (suc (untold q))) segs last put (suc taken) home prep
  dones_taken done untold prep ok q' a s other = ⊎_elim
      (λ (e : q ≡ q'). let m : n ≡ a = same_segment q' a s e in
      let was : done q' + untold q' ≡ passed taken ((segs a).start) (end_of segs last put a) = ok q' a s other in
      let now : put_in untold q (suc (untold q)) q' ≡ suc (untold q') = ap (λ b. cond b (suc (untold q)) (untold q')) (eq-eqb q q' e) ∙ ap (λ z. suc (untold z)) e in
      let up : passed (suc taken) ((segs a).start) (end_of segs last put a) ≡ suc (passed taken ((segs a).start) (end_of segs last put a))
      = passed_in taken ((segs a).start) (end_of segs last put a) (subst (λ (z : ℕ). (segs z).start ≤ taken) m over) (subst (λ (z : ℕ). taken < end_of segs last put z) m under) in
      ap (λ (z : ℕ). done q' + z) now ∙ (let z : done q' + suc (untold q') ≡ suc (done q' + untold q') = omega arith in z ∙ (ap suc was ∙ sym up)))
      (λ (ne : q ≢ q'). let l = (hm.there q' a s).0 in
      ap (λ (b : Bool). done q' + cond b (suc (untold q)) (untold q')) (ne_eqb q q' ne) ∙ (ok q' a s other ∙ sym (passed_out taken ((segs a).start) (end_of segs last put a) (begins_end a l) (out q' a s ne l))))
      (cases_eq q q')
    where
      out : (q' a : ℕ) → home q' ≡ suc a → q ≢ q' → a ≤ last → (taken < (segs a).start) ⊎ (end_of segs last put a ≤ taken)
      out q' a s ne l = ⊎_elim (λ y. inl y) (λ (o : (segs a).start ≤ taken). ⊎_elim
          (λ (u : taken < end_of segs last put a). absurd (ne (same_place q' a s (one_segment segs low last taken put c n a taken (hm.there q n at_q).0 l over under o u))))
          (λ y. inr y) (cases_lt taken (end_of segs last put a))) (cases_lt taken (segs a).start)

module _ (f : Form) (m : Memory) (views : List View) (id : ℕ) (v : View) (k : Kept f m views) (at : get_elem? views id ≡ some v) where
  abbrev g : Ghosts
  g = k.g

  abbrev ok : ViewOk f g id v
  ok = k.seats.each id v at

  abbrev active : Type 0
  active = HasNumber v.held v.caller

  abbrev e : ℕ → EntryMark
  e y = entry v.caller Deq (reply.Item (y ∷ []))

  module _ (q i y n : ℕ) where
    abbrev c : Cell
    c = (g.taken, reading id)

    abbrev g' : Ghosts
    g' = record g {
      log = g.log ++ e y ∷ [];
      made = count_made v.paid g.made v.caller;
      paid = g.paid - flag v.paid;
      taken = suc g.taken;
      cells = put_at g.cells q i c;
      untold = put_in g.untold q (suc (g.untold q));
    }

    abbrev w : View
    w = entered v g.log (e y) (Taking g.taken q i Unread)

    module _ (idle : v.hand ≡ Nothing) (may : MayCount v) (low : g.low ≤ n) (high : n ≤ g.last) (at_q : (g.segs n).place ≡ q) (near : i < (g.segs n).len) (is : g.cells q i ≡ (g.taken, full)) (noted : get_elem? g.values g.taken ≡ some (y ∷ [])) where
      home_q : g.home q ≡ suc n
      home_q = subst (λ (z : ℕ). g.home z ≡ suc n) at_q (k.words.homes.chain n low high)

      no_prep_q : g.prep ≢ suc q
      no_prep_q s = let a = k.words.preps.apart q n s home_q in let b = a.0 in omega arith

      slot : SlotOk (g.segs n).len g.values g.taken (g.segs n).start (end_of g.segs g.last g.put n) (m (Number q i)) (m (Item q i)) i (g.taken, full)
      slot = subst (SlotOk (g.segs n).len g.values g.taken (g.segs n).start (end_of g.segs g.last g.put n) (m (Number q i)) (m (Item q i)) i) is (k.words.slots q n i home_q no_prep_q near)

      no_hold : (j : ℕ) → holder (g.cells q i).1 ≢ suc j
      no_hold j s = let z : 0 ≡ suc j = sym (ap (λ (y : Cell). holder y.1) is) ∙ s in omega arith

      grows : Grows g g'
      grows = record {
        values = λ p x s. s;
        putters = λ p x s. s;
        put_up = le_refl _;
        taken_up = let z : g.taken ≤ suc g.taken = omega arith in z;
        segs = λ a l. refl;
        last_up = le_refl _;
        linked_up = le_refl _;
        opens = λ l. let l' : suc g.last ≤ g.last = l in absurd (omega arith);
        bar_up = λ a. le_refl _;
        free_stays = λ a b s. put_free g q i c (g.put < g.put) (λ z. absurd (let u : 1 ≡ 0 = sym (ap (λ (y : Cell). up y.1) is) ∙ ap (λ (y : Cell). up y.1) z in omega arith)) a b s;
        full_stays = λ a b o l l' s t r. inl (le_refl _);
        kept = λ a b o s p l. put_kept g q i c (λ o z r. subst (λ (y : Cell). StaysIn y c) (sym is) (refl, le_refl _)) a b o s;
      }

      own : (g.owner v.caller ≡ id) × (v.caller < f.callers)
      own = ok.holds.owns v.caller may.0

      inside : v.caller < length g.made
      inside = let z = k.words.calls.sized in let y = own.1 in omega arith

      small : v.caller < 64
      small = let z = k.words.calls.small in let x = own.1 in omega arith

      paid_part : flag v.paid ≤ g.paid
      paid_part = let a = total_part paid_of views id v at in let b = k.seats.paid_is in omega arith

      -- no take begins in a place that is none of the chain
      untold_out : (a : ℕ) → OutOfChain g a → put_in g.untold q (suc (g.untold q)) a ≤ g.untold a
      untold_out a o = let ne : q ≢ a = (λ s. let x = o n (ap g.home (sym s) ∙ home_q) in omega arith) in
          subst (λ (z : ℕ). z ≤ g.untold a) (sym (ap (λ b. cond b (suc (g.untold q)) (g.untold a)) (ne_eqb q a ne))) (le_refl (g.untold a))

      stage_on : (s : Stage) → StageOk g id active v.caller s → StageOk g' id active v.caller s
      stage_on Away y = y
      stage_on Plain y = y
      stage_on (Closed a b u) y = y
      stage_on (Found a b u) y = (y.0, y.1, y.2, y.3, y.4, y.5, y.6, (y.7.0, y.7.1, y.7.2, let z = untold_out u y.7.1 in let x = y.7.3 in omega arith))
      stage_on (Preparing d a b u t) y = y
      stage_on (Opened d a b) y = y
      stage_on (Linked a b) y = y
      stage_on (Observing a b d n p) y = y

      others : (j : ℕ) (u : View) → j ≢ id → ViewOk f g j u → Rely f j u g g'
      others j u other x = record {
        grows = grows;
        holds = λ h. others_entered f.callers g.log g.made g.owner j u.held u.made u.seen h (e y) id v.caller inside other own.0 refl v.paid;
        still = λ a. absurd (other (whole_alone f g j id u v x ok a may.0));
        hand_place = λ a b p s t. (s, t);
        window_place = λ a b p s t. (s, t, refl);
        held = put_held g q i c id j other (λ j' o. no_hold j');
        given = put_given g q i c id j other (own_loose id c refl);
        turned = λ t. record { turn = refl; called = refl; shut = refl; prep = refl; plan = refl; written = refl; now = refl; linked = refl; watch = λ o. le_refl _; untold = λ a o. untold_out a o; last = refl; low = refl; home = λ a. refl; put = λ s. refl };
        turns = λ t. t;
      }

      mine : ViewOk f g' id w
      mine = record {
        of_object = ok.of_object;
        of_callers = ok.of_callers;
        holds = own_enters f.callers g.log g.made g.owner id v.held v.made v.seen ok.holds (e y) v.caller inside (let z = k.words.calls.small in let x = own.1 in omega arith) may.0 v.paid;
        joint = tt;
        notes = blank_ok g' id (IsWhole v);
        hand = (may.0, (n, (home_q, no_prep_q, near)), le_refl _, at_here g.cells q i c);
        ties = each_slot g.cells q i c (λ a b d. holder d.1 ≡ suc id → InHand (Taking g.taken q i Unread) a b) (λ s. (refl, refl, tt)) (λ a b x s. absurd (subst (λ (z : Hand). InHand z a b) idle (ok.ties a b s)));
        stage = stage_on v.stage ok.stage;
        window = window_fact_stays g g' k.words.chain grows k.words.homes v.window (λ a b p s t. (s, t, refl)) ok.window;
        owned = ok.owned;
      }

      words : Words f (update m Head (suc g.taken)) g'
      words = record {
        counts = record {
          head_is = refl;
          behind = let a = slot.phase.1 in let b = end_put in let x : suc g.taken ≤ g.put = omega arith in x;
          within = let a = k.words.counts.within in let x : g.put ≤ suc g.taken + f.room = omega arith in x;
          sized = k.words.counts.sized;
          sized_by = k.words.counts.sized_by;
          stands = take_next f.room f.first_len g.log g.values g.putters g.taken v.caller k.words.counts.stands small y noted;
        };
        calls = calls_entered f g.log g.made g.paid k.words.calls (e y) v.caller own.1 refl v.paid paid_part (count_may may.1);
        chain = more_taken g.segs g.low g.last g.taken g.put k.words.chain;
        ranges = k.words.ranges;
        homes = k.words.homes;
        tails = k.words.tails;
        links = k.words.links;
        places = k.words.places;
        sizes = k.words.sizes;
        nexts = k.words.nexts;
        slots = slots_change (λ a b. m (Number a b)) (λ a b. m (Number a b)) (λ a b. m (Item a b)) (λ a b. m (Item a b)) g.values g.taken (suc g.taken) g.put g.segs g.last g.home g.cells g.prep q i c (let z : g.taken ≤ suc g.taken = omega arith in z)
            (λ a b x. (refl, refl)) elsewhere
            (λ a s p l. let z : n ≡ a = (let r : suc n ≡ suc a = sym home_q ∙ s in omega arith) in
            subst (λ (r : ℕ). SlotOk (g.segs r).len g.values (suc g.taken) (g.segs r).start (end_of g.segs g.last g.put r) (m (Number q i)) (m (Item q i)) i c) z
            record { lies = slot.lies; begins = slot.begins; freed = ⊎_elim (λ r. inl r) (λ (r : g.taken < g.taken + (g.segs n).len). inr (let t : g.taken < suc g.taken + (g.segs n).len = omega arith in t)) slot.freed; waits = slot.waits; shows = slot.shows; phase = (le_refl _, slot.phase.1, slot.phase.2) })
            k.words.slots;
        strays = λ a b p s. ⊎_elim (λ (l : p < g.taken). inl (let z : p < suc g.taken = omega arith in z)) (λ y. inr y) (k.words.strays a b p s);
        dones = dones_taken g.segs g.low g.last g.taken g.put g.home k.words.chain k.words.homes q n home_q slot.begins slot.phase.1 (λ a. m (Done a)) g.untold g.prep k.words.dones;
        observers = k.words.observers;
        bars = λ a. let z = k.words.bars a in let x : g.bar a ≤ suc g.taken = omega arith in x;
        turns = k.words.turns;
        preps = prep_takes (λ a. m (Start a)) (λ a. m (Length a)) (λ a. m (Done a)) (λ a. m (Segment a)) (λ a b. m (Number a b)) f g.segs g.low g.last g.put g.home g.untold (put_in g.untold q (suc (g.untold q))) g.watch g.prep g.plan g.written
            (λ a s. ap (λ b. cond b (suc (g.untold q)) (g.untold a)) (ne_eqb q a (λ z. no_prep_q (s ∙ ap suc (sym z))))) k.words.preps;
      }
        where
          end_put : end_of g.segs g.last g.put n ≤ g.put
          end_put = ⊎_elim (λ (s : n ≡ g.last). subst (λ (z : ℕ). z ≤ g.put) (sym (ap (λ b. cond b g.put ((g.segs (suc n)).start)) (eq-eqb n g.last s))) (le_refl g.put))
              (λ (ne : n ≢ g.last). subst (λ (z : ℕ). z ≤ g.put) (sym (end_at g.segs g.last g.put n ne)) (le_trans (rises g.segs g.low g.last g.taken g.put k.words.chain (suc n) g.last (omega arith) (le_refl _)) k.words.chain.ends)) (cases_eq n g.last)

          elsewhere : (a b o z : ℕ) → g.home a ≡ suc o → (q ≢ a) ⊎ (i ≢ b) → z % (g.segs o).len ≡ b → (g.segs o).start ≤ z → z < end_of g.segs g.last g.put o → g.taken ≤ z → suc g.taken ≤ z
          elsewhere a b o z s other r over under l = let ne : z ≢ g.taken = apart in omega arith
            where
              apart : z ≢ g.taken
              apart x = let same : n ≡ o = one_segment g.segs g.low g.last g.taken g.put k.words.chain n o g.taken high (k.words.homes.there a o s).0 slot.begins slot.phase.1 (subst (λ (t : ℕ). (g.segs o).start ≤ t) x over) (subst (λ (t : ℕ). t < end_of g.segs g.last g.put o) x under) in
                  let place : q ≡ a = sym at_q ∙ (ap (λ t. (g.segs t).place) same ∙ (k.words.homes.there a o s).1) in
                  let slot_is : i ≡ b = sym slot.lies ∙ ((λ j. sym x j % (g.segs (same j)).len) ∙ r) in
                  ⊎_elim (λ (t : q ≢ a). t place) (λ (t : i ≢ b). t slot_is) other

          count_may : (v.paid ≡ true) ⊎ (get_or v.made v.caller 0 < 2 ^ 48) → (v.paid ≡ true) ⊎ (get_or g.made v.caller 0 < 2 ^ 48)
          count_may x = ⊎_elim (λ b. inl b) (λ (l : get_or v.made v.caller 0 < 2 ^ 48). inr (subst (λ (z : ℕ). z < 2 ^ 48) (ok.holds.agrees v.caller may.0) l)) x

      takes_on : (a : ℕ) → put_in g.untold q (suc (g.untold q)) a + takes_at a v.hand ≡ g.untold a + flag (eqb q a)
      takes_on a = let z : takes_at a v.hand ≡ 0 = ap (takes_at a) idle in ⊎_elim
          (λ (s : q ≡ a). let x : put_in g.untold q (suc (g.untold q)) a ≡ suc (g.untold a) = ap (λ b. cond b (suc (g.untold q)) (g.untold a)) (eq-eqb q a s) ∙ ap (λ t. suc (g.untold t)) s in let r : flag (eqb q a) ≡ 1 = ap flag (eq-eqb q a s) in omega arith)
          (λ (ne : q ≢ a). let x : put_in g.untold q (suc (g.untold q)) a ≡ g.untold a = ap (λ b. cond b (suc (g.untold q)) (g.untold a)) (ne_eqb q a ne) in let r : flag (eqb q a) ≡ 0 = ap flag (ne_eqb q a ne) in omega arith)
          (cases_eq q a)

      pub took_here : Kept f (update m Head (suc g.taken)) (set views id w)
      took_here = kept_after f m (update m Head (suc g.taken)) views k id v w g' at words record {
        rely = λ j u other there y. others j u other y;
        mine = mine;
        paid_by = let z = paid_part in let y : (g.paid - flag v.paid) + flag v.paid ≡ g.paid + 0 = omega arith in y;
        untold_by = takes_on;
        watch_by = λ a. refl;
        seated = λ a b j other s. put_given g q i c id j other (own_loose id c refl) a b s;
        turned = λ j other s. s;
        seen = ((λ s. refl), inl refl);
      }

  -- with the numbers that the pass has read
  pub took_kept : (h q i y : ℕ) → MayTake v h q i y → m Head ≡ h → (w : View) × Kept f (update m Head (suc h)) (set views id w) × Takes v h q i y w
  took_kept h q i y may now =
      let s : FrontSeen g (front_of h q i y) = subst (FrontFact g) may.front ok.notes.front in
      let same : g.taken ≡ h = sym k.words.counts.head_is ∙ now in
      let slot : (n : ℕ) × (g.low ≤ n) × (n ≤ g.last) × ((g.segs n).place ≡ q) × (i < (g.segs n).len) × (g.cells q i ≡ (h, full)) = ⊎_elim (λ (z : h < g.taken). absurd (omega arith)) (λ z. z) s.slot in
      let item : get_elem? g.values h ≡ some (y ∷ []) = ⊎_elim (λ (z : h < g.taken). absurd (omega arith)) (λ z. z) (s.item y refl) in
      let w' : View = entered v g.log (e y) (Taking g.taken q i Unread) in
      let there : Kept f (update m Head (suc g.taken)) (set views id w') = took_here q i y slot.0 may.idle may.may slot.1 slot.2 slot.3 slot.4 (slot.5 ∙ (λ j. (sym same j, full))) (subst (λ (z : ℕ). get_elem? g.values z ≡ some (y ∷ [])) (sym same) item) in (
        w',
        subst (λ (z : ℕ). Kept f (update m Head (suc z)) (set views id w')) same there,
        record {
          before = g.log;
          seen = (ok.holds.behind, refl);
          lawful = entry_lawful f m views id v k at (e y) (ok.holds.owns v.caller may.may.0).1 g.values g.putters (suc g.taken)
              (take_next f.room f.first_len g.log g.values g.putters g.taken v.caller k.words.counts.stands (let a = (ok.holds.owns v.caller may.may.0).1 in let b = k.words.calls.small in omega arith) y (subst (λ (z : ℕ). get_elem? g.values z ≡ some (y ∷ [])) (sym same) item));
          counted = taken_counted f m views id v k at ∙ same;
          left = λ j. entered v g.log (e y) (Taking (same j) q i Unread);
        },
      )
