-- The loads: no word and no ghost data changes but for an entry, and the view notes what it read.
use Rattle.std.proofs.Common.{◌≡◌, ℕ, zero, suc, ◌+◌, ◌-◌, ◌*◌, ◌%◌, ◌^◌, ◌<◌, ◌≤◌, ◌≢◌, ◌⊎◌, inl, inr, ⊎_elim, eqb, cond, Bool, true, false, not, true≢false, List, [], ◌∷◌, ◌++◌, length, get_or, set, sym, refl, ap, ◌∙◌, subst, arith, le_refl, eq-eqb, ne_eqb, mod-lt}
use Rattle.std.proofs.lemmas.Bool.{cases_lt, cases_eq, eqb-true}
use mathlib.Core.Option.{some}
use mathlib.Core.Path.{Path}
use lib.ListN.{get_elem?}
use Rattle.std.specs.Prelude.{Option, Some, None}
use Rattle.ho_base.specs.Marks.{Mark}
use Rattle.ho_model.specs.declared.marks.EntryMark.{EntryMark}
use Rattle.passes.specs.Numbers.{HasNumber}
use Rattle.seg_rule.specs.declared.word.QueueWord.TheVariants.{Head, Tail, Length, Segment, Number, Item}
use Rattle.seg_rule.specs.declared.view.View.{View}
use Rattle.seg_rule.specs.declared.view.Notes.{Notes}
use Rattle.seg_rule.specs.declared.view.Obstacle.{Obstacle}
use Rattle.seg_rule.specs.declared.view.OpenTail.{OpenTail}
use Rattle.seg_rule.specs.declared.view.Front.{Front}
use Rattle.seg_rule.specs.declared.view.Window.{Window}
use Rattle.seg_rule.specs.declared.view.Hand.{Hand}
use Rattle.seg_rule.specs.declared.view.Stage.{Stage}
use Rattle.seg_rule.specs.Words.{Memory}
use Rattle.seg_rule.specs.Object.{Stands}
use Rattle.seg_rule.specs.Chain.{end_of}
use Rattle.seg_rule.specs.Slots.{Phase, free, writing, stored, full, reading, left, Cell, face, InPhase, SlotOk}
use Rattle.seg_rule.specs.declared.form.Form.{Form}
use Rattle.seg_rule.specs.Rule.{Ghosts, IsWhole, HeadNote, TailSeen, FrontSeen, NotesOk, HandOk, StageOk, WindowFact, ViewOk, Kept, in_range, takes_in, watches, paid_of, flag}
use Rattle.seg_rule.specs.Rely.{Grows, SameTurn}
use Rattle.seg_rule.specs.Steps.{blank, count_made, MayCount}
use Rattle.seg_rule.proofs.Chains.{rises}
use Rattle.seg_rule.proofs.Slots.{up_bit, tail_slot}
use Rattle.seg_rule.proofs.Stays.{blank_ok, window_fact_stays, owned_by}
use Rattle.seg_rule.proofs.Frames.{kept_after}
use Rattle.seg_rule.proofs.Sums.{total_part}
use Rattle.seg_rule.proofs.Entries.{own_enters, others_entered, calls_entered}
use Rattle.seg_rule.proofs.Tails.{tail_even}

-- an entry and the counts of calls alone
pub entry_grows : (g : Ghosts) (log : List EntryMark) (made : List ℕ) (paid : ℕ) → Grows g (record g { log = log; made = made; paid = paid })
entry_grows g log made paid = record {
  values = λ p x e. e;
  putters = λ p x e. e;
  put_up = le_refl _;
  taken_up = le_refl _;
  segs = λ n l. refl;
  last_up = le_refl _;
  linked_up = le_refl _;
  opens = λ l. let l' : suc g.last ≤ g.last = l in absurd (omega arith);
  bar_up = λ n. le_refl _;
  free_stays = λ a b e. inr (inl e);
  full_stays = λ a b n l l' e s z. inr (l, z);
  kept = λ a b n e p l s. (refl, le_refl _);
}

pub entry_turn : (g : Ghosts) (log : List EntryMark) (made : List ℕ) (paid : ℕ) → SameTurn g (record g { log = log; made = made; paid = paid })
entry_turn g log made paid = record { turn = refl; called = refl; shut = refl; prep = refl; plan = refl; written = refl; now = refl; linked = refl; watch = λ n. le_refl _; untold = λ q o. le_refl _; last = refl; low = refl; home = λ q. refl; put = λ s. refl }

abbrev pub or_zero : Option ℕ → ℕ
or_zero None = 0
or_zero (Some x) = x

abbrev pub is_some : Option ℕ → Bool
is_some None = false
is_some (Some x) = true

-- the published number of a position that is not taken is that of a full slot
published_cell : (n : ℕ) (xs : List Mark) (h s e x y i p : ℕ) (c : Cell) → SlotOk n xs h s e x y i c → x ≡ 2 * p + 1 → h ≤ p → Path Cell c (p, full) × (p < e)
published_cell n xs h s e x y i p c k is le = go c.1 k.phase k.shows
  where
    go : (ph : Phase) → InPhase xs h e y c.0 ph → x ≡ face (c.0, ph) → Path Cell (c.0, ph) (p, full) × (p < e)
    go free q f = absurd (omega arith)
    go (writing j) q f = absurd (omega arith)
    go (stored j) q f = absurd (omega arith)
    go full q f = let z : c.0 ≡ p = omega arith in let l = q.1 in ((λ j. (z j, full)), omega arith)
    go (reading j) q f = absurd (let l = q.0 in omega arith)
    go left q f = absurd (let l = q.0 in omega arith)

module _ (f : Form) (m : Memory) (views : List View) (id : ℕ) (v : View) (k : Kept f m views) (at : get_elem? views id ≡ some v) where
  abbrev g : Ghosts
  g = k.g

  abbrev ok : ViewOk f g id v
  ok = k.seats.each id v at

  -- the own view alone changes
  pub own_kept : (w : View) → ViewOk f g id w → paid_of v ≡ paid_of w → ((q : ℕ) → takes_in q v ≡ takes_in q w) → ((n : ℕ) → watches n v ≡ watches n w) → w.seen ≡ v.seen → Kept f m (set views id w)
  own_kept w mine paid takes watch seen = kept_after f m m views k id v w g at k.words record {
    rely = λ j u other there x. record {
      grows = entry_grows g g.log g.made g.paid;
      holds = λ h. h;
      still = λ a. (refl, refl, refl);
      hand_place = λ a n p e s. (e, s);
      window_place = λ a n p e s. (e, s, refl);
      held = λ a b e. refl;
      given = λ a b e. e;
      turned = λ e. entry_turn g g.log g.made g.paid;
      turns = λ e. e;
    };
    mine = mine;
    paid_by = ap (λ (z : ℕ). g.paid + z) paid;
    untold_by = λ a. ap (λ (z : ℕ). g.untold a + z) (takes a);
    watch_by = λ n. ap (λ (z : ℕ). g.watch n + z) (watch n);
    seated = λ a b j other e. e;
    turned = λ j other e. e;
    seen = ((λ e. seen ∙ e), inr refl);
  }

  pub look_kept : (o : Notes) (met : List Obstacle) → NotesOk g id (IsWhole v) o → Kept f m (set views id (record v { notes = o; met = met }))
  look_kept o met notes = own_kept (record v { notes = o; met = met })
      record { of_object = ok.of_object; of_callers = ok.of_callers; holds = ok.holds; joint = ok.joint; notes = notes; hand = ok.hand; ties = ok.ties; stage = ok.stage; window = ok.window; owned = ok.owned }
      refl (λ q. refl) (λ n. refl) refl

  -- an entry that moves no count: full, empty, peek, count, and a snapshot, whose window has the range that was there
  pub entry_kept : (e : EntryMark) → e.caller ≡ v.caller → Stands f.room f.first_len (g.log ++ e ∷ []) g.values g.putters g.taken → MayCount v
      → (stage : Stage) → StageOk g id (HasNumber v.held v.caller) v.caller stage → (window : Option Window) → ((n : ℕ) → in_range n v.window ≡ in_range n window) → WindowFact g window
      → Kept f m (set views id (record v { seen = g.log ++ e ∷ []; joint = None; made = count_made v.paid v.made v.caller; paid = false; notes = blank; stage = stage; window = window }))
  entry_kept e by stands may stage at_stage window range fact =
      let own = ok.holds.owns v.caller may.0 in let log' : List EntryMark = g.log ++ e ∷ [] in let made' : List ℕ = count_made v.paid g.made v.caller in
      let inside : v.caller < length g.made = (let z = k.words.calls.sized in let y = own.1 in omega arith) in
      let paid_part : flag v.paid ≤ g.paid = (let a = total_part paid_of views id v at in let b = k.seats.paid_is in omega arith) in
      let grows = entry_grows g log' made' (g.paid - flag v.paid) in let g' : Ghosts = record g { log = log'; made = made'; paid = g.paid - flag v.paid } in
      let w : View = record v { seen = log'; joint = None; made = count_made v.paid v.made v.caller; paid = false; notes = blank; stage = stage; window = window } in
      kept_after f m m views k id v w g' at
      record {
        counts = record { head_is = k.words.counts.head_is; behind = k.words.counts.behind; within = k.words.counts.within; sized = k.words.counts.sized; sized_by = k.words.counts.sized_by; stands = stands };
        calls = calls_entered f g.log g.made g.paid k.words.calls e v.caller own.1 by v.paid paid_part
            (⊎_elim (λ b. inl b) (λ (l : get_or v.made v.caller 0 < 2 ^ 48). inr (subst (λ (z : ℕ). z < 2 ^ 48) (ok.holds.agrees v.caller may.0) l)) may.1);
        chain = k.words.chain;
        ranges = k.words.ranges;
        homes = k.words.homes;
        tails = k.words.tails;
        links = k.words.links;
        places = k.words.places;
        sizes = k.words.sizes;
        nexts = k.words.nexts;
        slots = k.words.slots;
        strays = k.words.strays;
        dones = k.words.dones;
        observers = k.words.observers;
        bars = k.words.bars;
        turns = k.words.turns;
        preps = k.words.preps;
      }
      record {
        rely = λ j u other there x. record {
          grows = grows;
          holds = λ h. others_entered f.callers g.log g.made g.owner j u.held u.made u.seen h e id v.caller inside other own.0 by v.paid;
          still = λ a. (refl, refl, refl);
          hand_place = λ a n p s t. (s, t);
          window_place = λ a n p s t. (s, t, refl);
          held = λ a b s. refl;
          given = λ a b s. s;
          turned = λ s. entry_turn g log' made' (g.paid - flag v.paid);
          turns = λ s. s;
        };
        mine = record {
          of_object = ok.of_object;
          of_callers = ok.of_callers;
          holds = own_enters f.callers g.log g.made g.owner id v.held v.made v.seen ok.holds e v.caller inside (let z = k.words.calls.small in let y = own.1 in omega arith) may.0 v.paid;
          joint = tt;
          notes = blank_ok g' id (IsWhole v);
          hand = hand_on v.hand ok.hand;
          ties = ok.ties;
          stage = at_stage;
          window = window_fact_stays g g' k.words.chain grows k.words.homes window (λ a n p s t. (s, t, refl)) fact;
          owned = owned_by may.0 window;
        };
        paid_by = let y : (g.paid - flag v.paid) + flag v.paid ≡ g.paid + 0 = omega arith in y;
        untold_by = λ a. refl;
        watch_by = λ n. ap (λ (b : Bool). g.watch n + flag b) (range n);
        seated = λ a b j other s. s;
        turned = λ j other s. s;
        seen = ((λ s. refl), inl refl);
      }
    where
      hand_on : (h : Hand) → HandOk g id (HasNumber v.held v.caller) v.caller h → HandOk (record g { log = g.log ++ e ∷ []; made = count_made v.paid g.made v.caller; paid = g.paid - flag v.paid }) id (HasNumber v.held v.caller) v.caller h
      hand_on h x = x

  -- what the loads note

  pub head_noted : (h : ℕ) → m Head ≡ h → HeadNote g (IsWhole v) (Some h)
  head_noted h now = let e : g.taken ≡ h = sym k.words.counts.head_is ∙ now in (omega arith, λ w. sym e)

  abbrev seen_tail : ℕ → ℕ → OpenTail
  seen_tail q t = record { place = q; position = t; length = None; number = None; fits = false; full = false }

  pub tail_noted : (q t : ℕ) → q < f.places → m (Tail q) ≡ 2 * t → TailSeen g (IsWhole v) (seen_tail q t)
  tail_noted q t near now =
      let e = tail_even g.segs g.last g.put g.shut (g.home q) t (sym (k.words.tails q near) ∙ now) k.words.turns.bit in record {
        segment = g.last;
        there = record { opened = le_refl _; there = (k.words.homes.there q g.last e.0).1; below = let a = e.1 in omega arith; after = λ l. absurd (omega arith) };
        exact = λ w. sym e.1;
        sized = λ n z. absurd (true≢false (sym (ap is_some z)));
        numbered = λ n z. absurd (true≢false (sym (ap is_some z)));
        slot = λ n z b. absurd (true≢false (sym (ap is_some z)));
        turned = λ b. absurd (true≢false (sym b));
      }

  -- an open tail that was noted is past, or its place still shows its segment, of which it is the end
  pub still_shown : (o : OpenTail) (s : TailSeen g (IsWhole v) o)
      → (o.position < g.put) ⊎ ((g.home o.place ≡ suc s.segment) × (g.prep ≢ suc o.place) × (end_of g.segs g.last g.put s.segment ≡ o.position) × (g.put ≡ o.position) × ((g.segs s.segment).start ≤ o.position))
  still_shown o s = ⊎_elim (λ l. inl l) (λ (l : g.put ≤ t). let b = s.there.below in let e : g.put ≡ t = omega arith in ⊎_elim (λ (y : n < g.last). inr (before y e)) (λ (y : g.last ≤ n). let o' = s.there.opened in let z : n ≡ g.last = omega arith in inr (at_last z e)) (cases_lt n g.last)) (cases_lt t g.put)
    where
      t : ℕ
      t = o.position

      n : ℕ
      n = s.segment

      at_last : n ≡ g.last → g.put ≡ t → (g.home o.place ≡ suc n) × (g.prep ≢ suc o.place) × (end_of g.segs g.last g.put n ≡ t) × (g.put ≡ t) × ((g.segs n).start ≤ t)
      at_last z e = let h : g.home o.place ≡ suc n = subst (λ (y : ℕ). g.home y ≡ suc n) s.there.there (subst (λ (y : ℕ). g.home ((g.segs y).place) ≡ suc y) (sym z) (k.words.homes.chain g.last k.words.chain.inside (le_refl _))) in (
        h,
        (λ p. let a = (k.words.preps.apart o.place n p h).0 in let b = k.words.chain.inside in omega arith),
        ap (λ b. cond b g.put ((g.segs (suc n)).start)) (eq-eqb n g.last z) ∙ e,
        e,
        subst (λ (y : ℕ). (g.segs y).start ≤ t) (sym z) (subst (λ (y : ℕ). (g.segs g.last).start ≤ y) e k.words.chain.ends),
      )

      before : n < g.last → g.put ≡ t → (g.home o.place ≡ suc n) × (g.prep ≢ suc o.place) × (end_of g.segs g.last g.put n ≡ t) × (g.put ≡ t) × ((g.segs n).start ≤ t)
      before y e =
          let a : t ≤ (g.segs (suc n)).start = s.there.after y in let r = rises g.segs g.low g.last g.taken g.put k.words.chain (suc n) g.last y (le_refl _) in let d = k.words.chain.ends in
          let next : suc n ≡ g.last = ⊎_elim (λ z. z) (λ (ne : suc n ≢ g.last). absurd (let w = k.words.chain.follows (suc n) (omega arith) in let two = k.words.chain.some_slot (suc n) y in
          let r' = rises g.segs g.low g.last g.taken g.put k.words.chain (suc (suc n)) g.last (omega arith) (le_refl _) in omega arith)) (cases_eq (suc n) g.last) in
          let start : (g.segs g.last).start ≡ g.put = (let x : (g.segs (suc n)).start ≡ t = omega arith in ap (λ (z : ℕ). (g.segs z).start) (sym next) ∙ (x ∙ sym e)) in
          let two = k.words.chain.some_slot g.last (le_refl _) in
          let idle : (q : ℕ) → g.prep ≢ suc q = (λ q p. let w = k.words.preps.full q p in omega arith) in (
            home_is (g.home o.place) refl,
            idle o.place,
            ap (λ b. cond b g.put ((g.segs (suc n)).start)) (ne_eqb n g.last (λ z. omega arith)) ∙ (let x : (g.segs (suc n)).start ≡ t = omega arith in x),
            e,
            (let w = k.words.chain.follows n y in omega arith),
          )
        where
          home_is : (z : ℕ) → g.home o.place ≡ z → g.home o.place ≡ suc n
          home_is zero z = absurd (let l = k.words.homes.latest n s.there.opened in let l' : n < g.home o.place = subst (λ (x : ℕ). n < g.home x) s.there.there l in omega arith)
          home_is (suc a) z = let h = k.words.homes.there o.place a z in let l' : n < g.home o.place = subst (λ (x : ℕ). n < g.home x) s.there.there (k.words.homes.latest n s.there.opened) in
              let up : n ≤ a = omega arith in let top = h.0 in ⊎_elim (λ (w : n ≡ a). z ∙ ap suc (sym w))
              (λ (w : n ≢ a). absurd (later a h.0 h.1 (let b : n < a = omega arith in b)))
              (cases_eq n a)
            where
              later : (a : ℕ) → a ≤ g.last → (g.segs a).place ≡ o.place → n < a → ⊥
              later a top there l = let a' : t ≤ (g.segs (suc n)).start = s.there.after y in let d = k.words.chain.ends in
                  ⊎_elim (λ (w : suc n ≡ a). k.words.chain.next_apart n y (s.there.there ∙ (sym there ∙ ap (λ (x : ℕ). (g.segs x).place) (sym w))))
                  (λ (w : suc n ≢ a). let u = k.words.chain.follows (suc n) (omega arith) in let two = k.words.chain.some_slot (suc n) y in
                  let r' = rises g.segs g.low g.last g.taken g.put k.words.chain (suc (suc n)) g.last (omega arith) (le_refl _) in omega arith)
                  (cases_eq (suc n) a)

  pub length_noted : (o : OpenTail) (n : ℕ) → TailSeen g (IsWhole v) o → m (Length o.place) ≡ n → TailSeen g (IsWhole v) (record o { length = Some n; fits = false; full = false })
  length_noted o n s now = record {
    segment = s.segment;
    there = s.there;
    exact = s.exact;
    sized = λ n' z. ⊎_elim (λ l. inl l)
        (λ (y : (g.home o.place ≡ suc s.segment) × (g.prep ≢ suc o.place) × (end_of g.segs g.last g.put s.segment ≡ o.position) × (g.put ≡ o.position) × ((g.segs s.segment).start ≤ o.position)).
        inr (sym (ap (or_zero) z) ∙ (sym now ∙ (k.words.places o.place s.segment y.0 y.1).1)))
        (still_shown o s);
    numbered = s.numbered;
    slot = λ n' z b. absurd (true≢false (sym b));
    turned = λ b. absurd (true≢false (sym b));
  }

  pub segment_noted : (o : OpenTail) (n : ℕ) → TailSeen g (IsWhole v) o → m (Segment o.place) ≡ n → TailSeen g (IsWhole v) (record o { number = Some n })
  segment_noted o n s now = record {
    segment = s.segment;
    there = s.there;
    exact = s.exact;
    sized = s.sized;
    numbered = λ n' z. ⊎_elim (λ l. inl l)
        (λ (y : (g.home o.place ≡ suc s.segment) × (g.prep ≢ suc o.place) × (end_of g.segs g.last g.put s.segment ≡ o.position) × (g.put ≡ o.position) × ((g.segs s.segment).start ≤ o.position)).
        inr (sym (ap or_zero z) ∙ (sym now ∙ (k.words.places o.place s.segment y.0 y.1).2)))
        (still_shown o s);
    slot = s.slot;
    turned = s.turned;
  }

  abbrev Shown : (o : OpenTail) → TailSeen g (IsWhole v) o → Type 0
  Shown o s = (g.home o.place ≡ suc s.segment) × (g.prep ≢ suc o.place) × (end_of g.segs g.last g.put s.segment ≡ o.position) × (g.put ≡ o.position) × ((g.segs s.segment).start ≤ o.position)

  -- the number of the slot of an open tail: it is free, or the segment has had a whole turn
  tail_number_at : (o : OpenTail) (s : TailSeen g (IsWhole v) o) → Shown o s
      → ((g.cells o.place (o.position % (g.segs s.segment).len) ≡ (o.position, free)) × (m (Number o.place (o.position % (g.segs s.segment).len)) ≡ 2 * o.position))
      ⊎ (((g.segs s.segment).start + (g.segs s.segment).len ≤ o.position) × (m (Number o.place (o.position % (g.segs s.segment).len)) ≢ 2 * o.position))
  tail_number_at o s y =
      let t : ℕ = o.position in let n : ℕ = (g.segs s.segment).len in let i : ℕ = t % n in let two : 2 ≤ n = k.words.chain.some_slot s.segment s.there.opened in
      let slot : SlotOk n g.values g.taken (g.segs s.segment).start t (m (Number o.place i)) (m (Item o.place i)) i (g.cells o.place i)
      = subst (λ (z : ℕ). SlotOk n g.values g.taken (g.segs s.segment).start z (m (Number o.place i)) (m (Item o.place i)) i (g.cells o.place i)) y.2 (k.words.slots o.place s.segment i y.0 y.1 (mod-lt t (omega arith))) in
      ⊎_elim (λ z. inl z)
      (λ (z : ((g.segs s.segment).start + n ≤ t) × ((g.cells o.place i).0 + n ≡ t)). inr (z.0, λ e. let a = slot.shows in let b = z.1 in let u = up_bit (g.cells o.place i).1 in omega arith))
      (tail_slot n g.values g.taken (g.segs s.segment).start t (m (Number o.place i)) (m (Item o.place i)) (g.cells o.place i) slot (omega arith) y.4 (let a = k.words.counts.behind in let b = y.3 in omega arith))

  pub tail_number : (o : OpenTail) (n : ℕ) → o.length ≡ Some n → (s : TailSeen g (IsWhole v) o)
      → (o.position < g.put) ⊎ (((g.cells o.place (o.position % n) ≡ (o.position, free)) × (m (Number o.place (o.position % n)) ≡ 2 * o.position))
      ⊎ (((g.segs s.segment).start + (g.segs s.segment).len ≤ o.position) × (m (Number o.place (o.position % n)) ≢ 2 * o.position)))
  tail_number o n sized s = ⊎_elim (λ l. inl l) (λ (e : n ≡ (g.segs s.segment).len). ⊎_elim (λ l. inl l) (λ (y : Shown o s). inr (subst (λ (z : ℕ).
      ((g.cells o.place (o.position % z) ≡ (o.position, free)) × (m (Number o.place (o.position % z)) ≡ 2 * o.position)) ⊎ (((g.segs s.segment).start + (g.segs s.segment).len ≤ o.position) × (m (Number o.place (o.position % z)) ≢ 2 * o.position)))
      (sym e) (tail_number_at o s y))) (still_shown o s)) (s.sized n sized)

  pub number_noted : (o : OpenTail) (n x : ℕ) → o.length ≡ Some n → TailSeen g (IsWhole v) o → m (Number o.place (o.position % n)) ≡ x
      → TailSeen g (IsWhole v) (record o { fits = eqb x (2 * o.position); full = not (eqb x (2 * o.position)) })
  number_noted o n x sized s now = let told = tail_number o n sized s in record {
    segment = s.segment;
    there = s.there;
    exact = s.exact;
    sized = s.sized;
    numbered = s.numbered;
    slot = λ n' z b. let same : n ≡ n' = ap or_zero (sym sized ∙ z) in subst (λ (y : ℕ). (o.position < g.put) ⊎ (g.cells o.place (o.position % y) ≡ (o.position, free))) same (fit told (eqb-true x (2 * o.position) b));
    turned = λ b. full_turn told (λ e. true≢false (sym (sym (ap not (eq-eqb x (2 * o.position) e)) ∙ b)));
  }
    where
      fit : (o.position < g.put) ⊎ (((g.cells o.place (o.position % n) ≡ (o.position, free)) × (m (Number o.place (o.position % n)) ≡ 2 * o.position)) ⊎ (((g.segs s.segment).start + (g.segs s.segment).len ≤ o.position) × (m (Number o.place (o.position % n)) ≢ 2 * o.position)))
          → x ≡ 2 * o.position → (o.position < g.put) ⊎ (g.cells o.place (o.position % n) ≡ (o.position, free))
      fit told e = ⊎_elim (λ l. inl l) (λ (y : ((g.cells o.place (o.position % n) ≡ (o.position, free)) × (m (Number o.place (o.position % n)) ≡ 2 * o.position)) ⊎ (((g.segs s.segment).start + (g.segs s.segment).len ≤ o.position) × (m (Number o.place (o.position % n)) ≢ 2 * o.position))).
          ⊎_elim (λ z. inr z.0) (λ z. absurd (z.1 (now ∙ e))) y) told

      full_turn : (o.position < g.put) ⊎ (((g.cells o.place (o.position % n) ≡ (o.position, free)) × (m (Number o.place (o.position % n)) ≡ 2 * o.position)) ⊎ (((g.segs s.segment).start + (g.segs s.segment).len ≤ o.position) × (m (Number o.place (o.position % n)) ≢ 2 * o.position)))
          → x ≢ 2 * o.position → (o.position < g.put) ⊎ ((g.segs s.segment).start + (g.segs s.segment).len ≤ o.position)
      full_turn told e = ⊎_elim (λ l. inl l) (λ (y : ((g.cells o.place (o.position % n) ≡ (o.position, free)) × (m (Number o.place (o.position % n)) ≡ 2 * o.position)) ⊎ (((g.segs s.segment).start + (g.segs s.segment).len ≤ o.position) × (m (Number o.place (o.position % n)) ≢ 2 * o.position))).
          ⊎_elim (λ z. absurd (e (sym now ∙ z.1))) (λ z. inr z.0) y) told

  -- a published number of the head is that of its slot in the chain
  pub front_noted : (q i h : ℕ) → HeadNote g (IsWhole v) (Some h) → m (Number q i) ≡ 2 * h + 1 → FrontSeen g (record { position = h; place = q; slot = i; item = None })
  front_noted q i h note now = record {
    below = note.0;
    slot = ⊎_elim (λ l. inl l)
        (λ (y : (n : ℕ) × (g.home q ≡ suc n) × (g.prep ≢ suc q) × (i < (g.segs n).len)). ⊎_elim (λ (l : h < g.taken). inl l) (λ (l : g.taken ≤ h). let b = note.0 in let e : g.taken ≡ h = omega arith in
        let slot = k.words.slots q y.0 i y.1 y.2 y.3 in let full_is = published_cell (g.segs y.0).len g.values g.taken (g.segs y.0).start (end_of g.segs g.last g.put y.0) (m (Number q i)) (m (Item q i)) i h (g.cells q i) slot now (le_of e) in
        let hm = k.words.homes.there q y.0 y.1 in
        inr (y.0, in_chain_from y.0 hm.0 h full_is.1 (le_of e), hm.0, hm.1, y.3, full_is.0)) (cases_lt h g.taken))
        (k.words.strays q i h now);
    item = λ y e. absurd (true≢false (sym (ap is_some e)));
  }
    where
      le_of : {a b : ℕ} → a ≡ b → a ≤ b
      le_of {a} {b} e = omega arith

      in_chain_from : (n : ℕ) → n ≤ g.last → (p : ℕ) → p < end_of g.segs g.last g.put n → g.taken ≤ p → g.low ≤ n
      in_chain_from n top p under l = ⊎_elim (λ (y : n < g.low). absurd (let ne : n ≢ g.last = (λ e. let a = k.words.chain.inside in omega arith) in
          let u : p < (g.segs (suc n)).start = subst (λ (z : ℕ). p < z) (ap (λ b. cond b g.put ((g.segs (suc n)).start)) (ne_eqb n g.last ne)) under in
          let r = rises g.segs g.low g.last g.taken g.put k.words.chain (suc n) g.low y k.words.chain.inside in let b = k.words.chain.base in omega arith)) (λ (y : g.low ≤ n). y) (cases_lt n g.low)

  pub item_noted : (o : Front) (y : ℕ) → FrontSeen g o → m (Item o.place o.slot) ≡ y → FrontSeen g (record o { item = Some y })
  item_noted o y s now = record {
    below = s.below;
    slot = s.slot;
    item = λ y' e. let same : y ≡ y' = ap or_zero e in ⊎_elim (λ l. inl l)
        (λ (z : (n : ℕ) × (g.low ≤ n) × (n ≤ g.last) × ((g.segs n).place ≡ o.place) × (o.slot < (g.segs n).len) × (g.cells o.place o.slot ≡ (o.position, full))).
        let home : g.home o.place ≡ suc z.0 = subst (λ (x : ℕ). g.home x ≡ suc z.0) z.3 (k.words.homes.chain z.0 z.1 z.2) in
        let slot = subst (SlotOk (g.segs z.0).len g.values g.taken (g.segs z.0).start (end_of g.segs g.last g.put z.0) (m (Number o.place o.slot)) (m (Item o.place o.slot)) o.slot) z.5
        (k.words.slots o.place z.0 o.slot home (λ p. let a = (k.words.preps.apart o.place z.0 p home).0 in let b = z.1 in omega arith) z.4) in
        inr (subst (λ (x : ℕ). get_elem? g.values o.position ≡ some (x ∷ [])) (now ∙ same) slot.phase.2))
        s.slot;
  }
