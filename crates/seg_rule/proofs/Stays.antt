-- What a step of another seat leaves of a view: proved once, for all kinds of step.
use Rattle.std.proofs.Common.{◌≡◌, ℕ, suc, ◌+◌, ◌%◌, ◌<◌, ◌≤◌, ◌≢◌, ◌⊎◌, inl, inr, ⊎_elim, cond, true, [], ◌∷◌, sym, refl, ap, ◌∙◌, subst, arith, le_trans, le_refl, eq-eqb, ne_eqb}
use Rattle.std.proofs.lemmas.Bool.{cases_lt, cases_eq}
use Rattle.std.specs.Prelude.{Option, Some, None, IfSome}
use Rattle.passes.specs.Numbers.{HasNumber}
use Rattle.seg_rule.specs.declared.view.View.{View}
use Rattle.seg_rule.specs.declared.view.Notes.{Notes}
use Rattle.seg_rule.specs.declared.view.OpenTail.{OpenTail}
use Rattle.seg_rule.specs.declared.view.Front.{Front}
use Rattle.seg_rule.specs.declared.view.Candidate.{Candidate}
use Rattle.seg_rule.specs.declared.view.Scan.{Scan}
use Rattle.seg_rule.specs.declared.view.Window.{Window}
use Rattle.seg_rule.specs.declared.view.Leave.{Leave}
use Rattle.seg_rule.specs.declared.view.Leave.TheVariants.{Unread, Granted, Measured, Refused, Released}
use Rattle.seg_rule.specs.declared.view.Hand.{Hand}
use Rattle.seg_rule.specs.declared.view.Hand.TheVariants.{Nothing, Reserved, Stored, Taking}
use Rattle.seg_rule.specs.declared.view.Stage.{Stage}
use Rattle.seg_rule.specs.declared.view.Stage.TheVariants.{Away, Plain, Closed, Found, Preparing, Opened, Linked, Observing}
use Rattle.seg_rule.specs.Chain.{Seg, ChainOk, TailNote, end_of}
use Rattle.seg_rule.specs.Slots.{Phase, free, full, Cell, up, holder}
use Rattle.seg_rule.specs.Places.{HomeOk}
use Rattle.seg_rule.specs.declared.form.Form.{Form}
use Rattle.seg_rule.specs.Rule.{Ghosts, IsWhole, Shows, HeadNote, TailSeen, TailFact, FrontSeen, FrontFact, NotesOk, CandidateSeen, LengthAt, NextAt, IsPast, ScanSeen, LeaveOk, HandOk, HasTurn, StageOk, ShownAt, WindowOk, WindowFact, WindowOwned, ViewOk, in_range, IsFree}
use Rattle.seg_rule.specs.Rely.{IsLate, Grows, HandPlace, SameChain, SameTurn, same_chain, Rely}
use Rattle.seg_rule.specs.Steps.{blank, blank_scan, no_scan}
use Rattle.seg_rule.proofs.Chains.{prepared_late}
use Rattle.seg_rule.proofs.Slots.{up_bit}
use Rattle.seg_rule.proofs.Spans.{range_is}

pub if_some : {X : Type 0} (P Q : X → Type 0) → ((x : X) → P x → Q x) → (o : Option X) → IfSome o P → IfSome o Q
if_some P Q f None y = tt
if_some P Q f (Some x) y = f x y

published : (a b : Phase) → up a ≤ up b → up a ≡ 1 → up b ≡ 1
published a b l e = let bit = up_bit b in omega arith

pub owned_by : {active : Type 0} → active → (w : Option Window) → WindowOwned active w
owned_by a None = tt
owned_by a (Some w) = a

pub nothing_scanned : (g : Ghosts) → ScanSeen g blank_scan
nothing_scanned g = record { first = tt; current = tt; length = tt; next = tt; past = tt; inside = tt; moved = tt; candidate = tt }

pub blank_ok : (g : Ghosts) (j : ℕ) (whole : Type 0) → NotesOk g j whole blank
blank_ok g j whole = record { head = tt; gone = tt; tail = tt; newest = λ w. tt; front = tt; scan = λ t. nothing_scanned g }

-- with the chain as it was before the step
module _ (g g' : Ghosts) (c : ChainOk g.segs g.low g.last g.taken g.put) (k : Grows g g') where
  pub tail_note_stays : (place at n : ℕ) → TailNote g.segs g.last g.put place at n → TailNote g'.segs g'.last g'.put place at n
  tail_note_stays place at n t = record {
    opened = le_trans t.opened k.last_up;
    there = ap (λ (s : Seg). s.place) (k.segs n t.opened) ∙ t.there;
    below = le_trans t.below k.put_up;
    after = λ l. ⊎_elim
        (λ (y : n < g.last). subst (λ (s : Seg). at ≤ s.start) (sym (k.segs (suc n) y)) (t.after y))
        (λ (y : g.last ≤ n). let o = t.opened in let e : g.last ≡ n = omega arith in let b = t.below in
        subst (λ (z : ℕ). at ≤ (g'.segs (suc z)).start) e (le_trans b (k.opens (subst (λ (z : ℕ). suc z ≤ g'.last) (sym e) l))))
        (cases_lt n g.last);
  }

  head_stays : (whole : Type 0) → (whole → (g'.put ≡ g.put) × (g'.taken ≡ g.taken)) → (o : Option ℕ) → HeadNote g whole o → HeadNote g' whole o
  head_stays whole still None x = tt
  head_stays whole still (Some h) x = (le_trans x.0 k.taken_up, λ w. x.1 w ∙ sym (still w).1)

  tail_seen : (whole : Type 0) → (whole → (g'.put ≡ g.put) × (g'.taken ≡ g.taken)) → (o : OpenTail) → TailSeen g whole o → TailSeen g' whole o
  tail_seen whole still o x = record {
    segment = x.segment;
    there = tail_note_stays o.place o.position x.segment x.there;
    exact = λ w. x.exact w ∙ sym (still w).0;
    sized = λ n e. ⊎_elim (λ l. inl (le_trans l k.put_up)) (λ (s : n ≡ (g.segs x.segment).len). inr (s ∙ ap (λ (z : Seg). z.len) (sym (k.segs x.segment x.there.opened)))) (x.sized n e);
    numbered = λ n e. ⊎_elim (λ l. inl (le_trans l k.put_up)) (λ y. inr y) (x.numbered n e);
    slot = λ n e b. ⊎_elim (λ l. inl (le_trans l k.put_up)) (λ s. at_tail n s) (x.slot n e b);
    turned = λ b. ⊎_elim (λ l. inl (le_trans l k.put_up)) (λ (l : (g.segs x.segment).start + (g.segs x.segment).len ≤ o.position). inr (subst (λ (z : Seg). z.start + z.len ≤ o.position) (sym (k.segs x.segment x.there.opened)) l)) (x.turned b);
  }
    where
      t : ℕ
      t = o.position

      later : g.put < g'.put → t < g'.put
      later l = let b = x.there.below in omega arith

      at_tail : (n : ℕ) → g.cells o.place (t % n) ≡ (t, free) → (t < g'.put) ⊎ (g'.cells o.place (t % n) ≡ (t, free))
      at_tail n s = ⊎_elim (λ (l : t < g.put). inl (le_trans l k.put_up))
          (λ (l : g.put ≤ t). let b = x.there.below in let e : g.put ≡ t = omega arith in
          ⊎_elim (λ (y : g.put < g'.put). inl (later y))
          (λ (y : (g'.cells o.place (t % n) ≡ (g.put, free)) ⊎ IsLate g o.place). ⊎_elim
          (λ (z : g'.cells o.place (t % n) ≡ (g.put, free)). inr (z ∙ (λ j. (e j, free))))
          (λ (z : IsLate g o.place). let w = prepared_late g.segs g.low g.last g.taken g.put c o.place t x.segment x.there z.0 z.1 in absurd (omega arith))
          y)
          (k.free_stays o.place (t % n) (s ∙ (λ j. (sym e j, free)))))
          (cases_lt t g.put)

  tail_stays : (whole : Type 0) → (whole → (g'.put ≡ g.put) × (g'.taken ≡ g.taken)) → (o : Option OpenTail) → TailFact g whole o → TailFact g' whole o
  tail_stays whole still None x = tt
  tail_stays whole still (Some o) x = tail_seen whole still o x

  front_seen : (o : Front) → FrontSeen g o → FrontSeen g' o
  front_seen o x = record {
    below = le_trans x.below k.taken_up;
    slot = ⊎_elim (λ l. inl (le_trans l k.taken_up)) at_head x.slot;
    item = λ y e. ⊎_elim (λ l. inl (le_trans l k.taken_up)) (λ s. inr (k.values o.position (y ∷ []) s)) (x.item y e);
  }
    where
      p : ℕ
      p = o.position

      at_head : ((n : ℕ) × (g.low ≤ n) × (n ≤ g.last) × ((g.segs n).place ≡ o.place) × (o.slot < (g.segs n).len) × (g.cells o.place o.slot ≡ (p, full)))
          → (p < g'.taken) ⊎ ((n : ℕ) × (g'.low ≤ n) × (n ≤ g'.last) × ((g'.segs n).place ≡ o.place) × (o.slot < (g'.segs n).len) × (g'.cells o.place o.slot ≡ (p, full)))
      at_head s = ⊎_elim (λ (l : p < g.taken). inl (le_trans l k.taken_up))
          (λ (l : g.taken ≤ p). let b = x.below in let e : g.taken ≡ p = omega arith in
          ⊎_elim (λ (y : g.taken < g'.taken). inl (let u : p < g'.taken = omega arith in u))
          (λ (y : (g'.low ≤ s.0) × (g'.cells o.place o.slot ≡ (g.taken, full))). inr (
            s.0,
            y.0,
            le_trans s.2 k.last_up,
            ap (λ (z : Seg). z.place) (k.segs s.0 s.2) ∙ s.3,
            subst (λ (z : Seg). o.slot < z.len) (sym (k.segs s.0 s.2)) s.4,
            y.1 ∙ (λ j. (e j, full)),
          ))
          (k.full_stays o.place o.slot s.0 s.1 s.2 s.3 s.4 (s.5 ∙ (λ j. (sym e j, full)))))
          (cases_lt p g.taken)

  front_stays : (o : Option Front) → FrontFact g o → FrontFact g' o
  front_stays None x = tt
  front_stays (Some o) x = front_seen o x

  -- the end of a segment only grows
  pub end_up : (n : ℕ) → n ≤ g.last → end_of g.segs g.last g.put n ≤ end_of g'.segs g'.last g'.put n
  end_up n l = ⊎_elim
      (λ (e : n ≡ g.last). subst (λ (z : ℕ). z ≤ end_of g'.segs g'.last g'.put n) (sym (ap (λ b. cond b g.put ((g.segs (suc n)).start)) (eq-eqb n g.last e))) (⊎_elim
      (λ (same : n ≡ g'.last). subst (λ (z : ℕ). g.put ≤ z) (sym (ap (λ b. cond b g'.put ((g'.segs (suc n)).start)) (eq-eqb n g'.last same))) k.put_up)
      (λ (less : n ≢ g'.last). subst (λ (z : ℕ). g.put ≤ z) (sym (ap (λ b. cond b g'.put ((g'.segs (suc n)).start)) (ne_eqb n g'.last less)))
      (let u = k.last_up in subst (λ (z : ℕ). g.put ≤ (g'.segs (suc z)).start) (sym e) (k.opens (omega arith))))
      (cases_eq n g'.last)))
      (λ (ne : n ≢ g.last). let u = k.last_up in let less : n ≢ g'.last = (λ s. omega arith) in
      subst (λ (z : ℕ). z ≤ end_of g'.segs g'.last g'.put n) (sym (ap (λ b. cond b g.put ((g.segs (suc n)).start)) (ne_eqb n g.last ne)))
      (subst (λ (z : ℕ). (g.segs (suc n)).start ≤ z) (sym (ap (λ b. cond b g'.put ((g'.segs (suc n)).start)) (ne_eqb n g'.last less)))
      (subst (λ (s : Seg). (g.segs (suc n)).start ≤ s.start) (sym (k.segs (suc n) (omega arith))) (le_refl ((g.segs (suc n)).start)))))
      (cases_eq n g.last)

  -- what was read of the chain, where it stands as before
  module _ (s : SameChain g g') where
    last_from : (n : ℕ) → n ≤ g.last → n ≤ g'.last
    last_from n l = le_trans l k.last_up

    candidate_stays : (o : Candidate) → CandidateSeen g o → CandidateSeen g' o
    candidate_stays o x = record {
      ends = λ n h. let e = x.ends n (sym (s.home o.place) ∙ h) in (le_trans e.0 k.last_up, ap (λ (z : Seg). z.start) (k.segs (suc n) e.0) ∙ e.1);
      starts = if_some (λ a. (n : ℕ) → g.home o.place ≡ suc n → g.prep ≢ suc o.place → (g.segs n).start ≡ a) (λ a. (n : ℕ) → g'.home o.place ≡ suc n → g'.prep ≢ suc o.place → (g'.segs n).start ≡ a)
          (λ a y n h p. let h' : g.home o.place ≡ suc n = sym (s.home o.place) ∙ h in let e = x.ends n h' in ap (λ (z : Seg). z.start) (k.segs n (let l = e.0 in omega arith)) ∙ y n h' (λ q. p (s.prep ∙ q)))
          o.start x.starts;
      spent = λ b. let y = x.spent b in (
        λ n h. subst (λ (z : ℕ). n < z) (sym s.low) (y.0 n (sym (s.home o.place) ∙ h)),
        (let a = s.untold o.place y.0 in let e = y.1 in omega arith),
      );
    }

    pub scan_stays : HomeOk g.segs g.low g.last g.home → (o : Scan) → ScanSeen g o → ScanSeen g' o
    scan_stays h o x = record {
      first = if_some (λ p. (g.segs g.low).place ≡ p) (λ p. (g'.segs g'.low).place ≡ p) (λ p y. ap (λ (z : ℕ). (g'.segs z).place) s.low ∙ (ap (λ (z : Seg). z.place) (k.segs g.low c.inside) ∙ y)) o.first x.first;
      current = if_some (λ p. (g.now ≤ g.last) × ((g.segs g.now).place ≡ p)) (λ p. (g'.now ≤ g'.last) × ((g'.segs g'.now).place ≡ p))
          (λ p y. ((let a = y.0 in let b = s.now in let d = s.last in omega arith), ap (λ (z : ℕ). (g'.segs z).place) s.now ∙ (ap (λ (z : Seg). z.place) (k.segs g.now y.0) ∙ y.1))) o.current x.current;
      length = if_some (LengthAt g) (LengthAt g') (λ a y n e p. let e' : g.home a.0 ≡ suc n = sym (s.home a.0) ∙ e in y n e' (λ q. p (s.prep ∙ q)) ∙ ap (λ (z : Seg). z.len) (sym (k.segs n (h.there a.0 n e').0))) o.length x.length;
      next = if_some (NextAt g) (NextAt g')
          (λ a y n l u w e. let w' : n < g.last = subst (λ (z : ℕ). n < z) s.last w in
          y n (subst (λ (z : ℕ). z ≤ n) s.low l) (subst (λ (z : ℕ). n < z) s.now u) w' (ap (λ (z : Seg). z.place) (sym (k.segs n (let r : n ≤ g.last = omega arith in r))) ∙ e) ∙ ap (λ (z : Seg). z.place) (sym (k.segs (suc n) w')))
          o.next x.next;
      past = if_some (IsPast g) (IsPast g')
          (λ a y. (
            le_trans y.0 k.taken_up,
            ⊎_elim (λ (e : g.low ≡ g.now). inl (s.low ∙ (e ∙ sym s.now)))
                (λ (e : (g.low < g.last) × (a < (g.segs (suc g.low)).start)). inr (
                  subst (λ (z : ℕ × ℕ). z.0 < z.1) (λ i. (sym s.low i, sym s.last i)) e.0,
                  subst (λ (z : ℕ). a < (g'.segs (suc z)).start) (sym s.low) (subst (λ (z : Seg). a < z.start) (sym (k.segs (suc g.low) e.0)) e.1),
                )) y.1,
          ))
          o.past x.past;
      inside = if_some (λ a. a < end_of g.segs g.last g.put g.low) (λ a. a < end_of g'.segs g'.last g'.put g'.low)
          (λ a y. subst (λ (z : ℕ). a < end_of g'.segs g'.last g'.put z) (sym s.low) (le_trans y (end_up g.low c.inside))) o.inside x.inside;
      moved = if_some (λ e. e ≤ (g.segs g.low).start) (λ e. e ≤ (g'.segs g'.low).start)
          (λ e y. subst (λ (z : ℕ). e ≤ (g'.segs z).start) (sym s.low) (subst (λ (z : Seg). e ≤ z.start) (sym (k.segs g.low c.inside)) y)) o.moved x.moved;
      candidate = if_some (CandidateSeen g) (CandidateSeen g') candidate_stays o.candidate x.candidate;
    }

  module _ (j : ℕ) (whole : Type 0) (still : whole → (g'.put ≡ g.put) × (g'.taken ≡ g.taken)) where
    -- an open tail that was noted is that of the last place still
    last_noted : g'.last ≡ g.last → (o : Option OpenTail) → IfSome o (λ t. (g.segs g.last).place ≡ t.place) → IfSome o (λ t. (g'.segs g'.last).place ≡ t.place)
    last_noted l o x = if_some (λ t. (g.segs g.last).place ≡ t.place) (λ t. (g'.segs g'.last).place ≡ t.place)
        (λ t e. ap (λ (z : ℕ). (g'.segs z).place) l ∙ (ap (λ (z : Seg). z.place) (k.segs g.last (le_refl g.last)) ∙ e)) o x

    pub notes_stay : HomeOk g.segs g.low g.last g.home → (g'.turn ≡ suc j → g.turn ≡ suc j) → (g.turn ≡ suc j → SameChain g g') → (whole → g'.last ≡ g.last) → (o : Notes) → NotesOk g j whole o → NotesOk g' j whole o
    notes_stay h got same last o x = record {
      head = head_stays whole still o.head x.head;
      gone = if_some (λ a. a < g.taken) (λ a. a < g'.taken) (λ a y. le_trans y k.taken_up) o.gone x.gone;
      tail = tail_stays whole still o.tail x.tail;
      newest = λ w. ⊎_elim (λ (a : whole). last_noted (last a) o.tail (x.newest (inl a))) (λ (t : g'.turn ≡ suc j). last_noted (same (got t)).last o.tail (x.newest (inr (got t)))) w;
      front = front_stays o.front x.front;
      scan = λ t. scan_stays (same (got t)) h o.scan (x.scan (got t));
    }

    -- the same with another tail, but for what was read of the chain
    pub notes_with : (tail : Option OpenTail) → TailFact g' whole tail → IfSome tail (λ t. (g'.segs g'.last).place ≡ t.place) → (o : Notes) → NotesOk g j whole o → NotesOk g' j whole (record (no_scan o) { tail = tail })
    notes_with tail fact newest o x = record {
      head = head_stays whole still o.head x.head;
      gone = if_some (λ a. a < g.taken) (λ a. a < g'.taken) (λ a y. le_trans y k.taken_up) o.gone x.gone;
      tail = fact;
      newest = λ w. newest;
      front = front_stays o.front x.front;
      scan = λ t. nothing_scanned g';
    }

    -- the same for the holder of the turn, but for what was read of the chain
    pub notes_alone : g.turn ≡ suc j → g'.last ≡ g.last → (o : Notes) → NotesOk g j whole o → NotesOk g' j whole (no_scan o)
    notes_alone mine last o x = notes_with o.tail (tail_stays whole still o.tail x.tail) (last_noted last o.tail (x.newest (inr mine))) o x

  module _ (h : HomeOk g.segs g.low g.last g.home) where
    pub shows_stays : (q i n : ℕ) → (g'.home q ≡ suc n) × (g'.prep ≢ suc q) → Shows g q i n → Shows g' q i n
    shows_stays q i n p s = (p.0, p.1, subst (λ (z : Seg). i < z.len) (sym (k.segs n (h.there q n s.0).0)) s.2)

    pub window_stays : (w : Window) → ((q n : ℕ) → in_range n (Some w) ≡ true → g.home q ≡ suc n → g.prep ≢ suc q → (g'.home q ≡ suc n) × (g'.prep ≢ suc q) × (g'.bar n ≡ g.bar n)) → WindowOk g w → WindowOk g' w
    window_stays w pins x = record {
      some = x.some;
      opened = λ n r. let o = x.opened n r in let p = pins ((g.segs n).place) n r o.1 o.2 in let same : (g.segs n).place ≡ (g'.segs n).place = ap (λ (s : Seg). s.place) (sym (k.segs n o.0)) in
          (le_trans o.0 k.last_up, subst (λ (z : ℕ). g'.home z ≡ suc n) same p.0, subst (λ (z : ℕ). g'.prep ≢ suc z) same p.1, le_trans o.3 k.linked_up);
      behind = le_trans x.behind k.put_up;
      first = λ l. ap (λ (s : Seg). s.place) (k.segs w.begin (x.opened w.begin (range_is w.begin w.end w.begin (le_refl _) l)).0) ∙ x.first l;
      last = λ n e l. ap (λ (s : Seg). s.place) (k.segs n (x.opened n (range_is w.begin w.end n l (let r : n < w.end = omega arith in r))).0) ∙ x.last n e l;
      after = if_some (λ (p : ℕ). suc w.begin < w.end → p ≡ (g.segs (suc w.begin)).place) (λ (p : ℕ). suc w.begin < w.end → p ≡ (g'.segs (suc w.begin)).place)
          (λ p y l. y l ∙ ap (λ (s : Seg). s.place) (sym (k.segs (suc w.begin) (x.opened (suc w.begin) (range_is w.begin w.end (suc w.begin) (let r : w.begin ≤ suc w.begin = omega arith in r) l)).0))) w.after x.after;
      ends = if_some (λ e. suc w.begin < w.end → (g.segs (suc w.begin)).start ≡ e) (λ e. suc w.begin < w.end → (g'.segs (suc w.begin)).start ≡ e)
          (λ e y l. ap (λ (s : Seg). s.start) (k.segs (suc w.begin) (x.opened (suc w.begin) (range_is w.begin w.end (suc w.begin) (let r : w.begin ≤ suc w.begin = omega arith in r) l)).0) ∙ y l) w.ends x.ends;
      length = if_some (λ n. n ≡ (g.segs w.begin).len) (λ n. n ≡ (g'.segs w.begin).len)
          (λ n y. y ∙ ap (λ (s : Seg). s.len) (sym (k.segs w.begin (x.opened w.begin (range_is w.begin w.end w.begin (le_refl _) x.some)).0))) w.length x.length;
      shown = if_some (ShownAt g w) (ShownAt g' w) (λ y s p e lo hi near.
          let first = range_is w.begin w.end w.begin (le_refl _) x.some in let o = x.opened w.begin first in let same : g'.segs w.begin ≡ g.segs w.begin = k.segs w.begin o.0 in
          let near' : y.0 < (g.segs w.begin).len = subst (λ (z : Seg). y.0 < z.len) same near in let a = s p e lo hi near' in
          let moved = k.kept ((g.segs w.begin).place) y.0 w.begin o.1 o.2 near' (subst (λ (z : ℕ). g.bar w.begin ≤ z) (sym a.0) a.2) in
          let bar = (pins ((g.segs w.begin).place) w.begin first o.1 o.2).2 in (
            subst (λ (z : Seg). (g'.cells z.place y.0).0 ≡ p) (sym same) (moved.0 ∙ a.0),
            subst (λ (z : Seg). up (g'.cells z.place y.0).1 ≡ 1) (sym same) (published (g.cells ((g.segs w.begin).place) y.0).1 (g'.cells ((g.segs w.begin).place) y.0).1 moved.1 a.1),
            subst (λ (z : ℕ). z ≤ p) (sym bar) a.2,
          )) w.shown x.shown;
      there = λ p a b. let t = x.there p a b in let n : ℕ = t.0 in let i : ℕ = t.1 in let o = x.opened n t.2 in let s : g'.segs n ≡ g.segs n = k.segs n o.0 in
          let moved = k.kept ((g.segs n).place) i n o.1 o.2 t.5 (subst (λ (z : ℕ). g.bar n ≤ z) (sym t.7) t.8) in
          let bar = (pins ((g.segs n).place) n t.2 o.1 o.2).2 in (
            n,
            i,
            t.2,
            subst (λ (z : Seg). z.start ≤ p) (sym s) t.3,
            le_trans t.4 (end_up n o.0),
            subst (λ (z : Seg). i < z.len) (sym s) t.5,
            subst (λ (z : Seg). p % z.len ≡ i) (sym s) t.6,
            subst (λ (z : Seg). (g'.cells z.place i).0 ≡ p) (sym s) (moved.0 ∙ t.7),
            subst (λ (z : ℕ). z ≤ p) (sym bar) t.8,
          );
    }

    pub window_fact_stays : (w : Option Window) → ((q n : ℕ) → in_range n w ≡ true → g.home q ≡ suc n → g.prep ≢ suc q → (g'.home q ≡ suc n) × (g'.prep ≢ suc q) × (g'.bar n ≡ g.bar n)) → WindowFact g w → WindowFact g' w
    window_fact_stays None pins x = tt
    window_fact_stays (Some w) pins x = window_stays w pins x

    leave_stays : (j p q i n : ℕ) → g.home q ≡ suc n → g'.home q ≡ suc n → (holder (g.cells q i).1 ≡ suc j → g'.cells q i ≡ g.cells q i) → (l : Leave) → LeaveOk g j p q i l → LeaveOk g' j p q i l
    leave_stays j p q i n at at' held Unread x = held (ap (λ (z : Cell). holder z.1) x) ∙ x
    leave_stays j p q i n at at' held Granted x = (
      held (ap (λ (z : Cell). holder z.1) x.0) ∙ x.0,
      λ m e. let same : n ≡ m = (let s : suc n ≡ suc m = sym at' ∙ e in let s' : n ≡ m = omega arith in s') in
          subst (λ (z : ℕ). p < g'.bar z) same (le_trans (x.1 n at) (k.bar_up n)),
    )
    leave_stays j p q i n at at' held (Measured s) x = (
      held (ap (λ (z : Cell). holder z.1) x.0) ∙ x.0,
      λ m e. let same : n ≡ m = (let s : suc n ≡ suc m = sym at' ∙ e in let s' : n ≡ m = omega arith in s') in let y = x.1 n at in
          subst (λ (z : ℕ). (p < g'.bar z) × (s ≡ (g'.segs z).len)) same (le_trans y.0 (k.bar_up n), y.1 ∙ ap (λ (z : Seg). z.len) (sym (k.segs n (h.there q n at).0))),
    )
    leave_stays j p q i n at at' held Refused x = tt
    leave_stays j p q i n at at' held Released x = tt

    pub hand_stays : (j : ℕ) (active : Type 0) (b : ℕ) (w : Hand) → ((q n : ℕ) → HandPlace w q → g.home q ≡ suc n → g.prep ≢ suc q → (g'.home q ≡ suc n) × (g'.prep ≢ suc q))
        → ((q i : ℕ) → holder (g.cells q i).1 ≡ suc j → g'.cells q i ≡ g.cells q i) → HandOk g j active b w → HandOk g' j active b w
    hand_stays j active b Nothing pins held x = tt
    hand_stays j active b (Reserved p q i y) pins held x = let s = x.1 in
        (x.0, (s.0, shows_stays q i s.0 (pins q s.0 refl s.1.0 s.1.1) s.1), held q i (ap (λ (z : Cell). holder z.1) x.2) ∙ x.2, k.values p (y ∷ []) x.3, k.putters p b x.4)
    hand_stays j active b (Stored p q i y) pins held x = let s = x.1 in
        (x.0, (s.0, shows_stays q i s.0 (pins q s.0 refl s.1.0 s.1.1) s.1), held q i (ap (λ (z : Cell). holder z.1) x.2) ∙ x.2, k.values p (y ∷ []) x.3, k.putters p b x.4)
    hand_stays j active b (Taking p q i l) pins held x = let s = x.1 in let u = pins q s.0 refl s.1.0 s.1.1 in
        (x.0, (s.0, shows_stays q i s.0 u s.1), le_trans x.2 k.taken_up, leave_stays j p q i s.0 s.1.0 u.0 (held q i) l x.3)

  has_turn : (j : ℕ) (active : Type 0) (b : ℕ) → SameTurn g g' → HasTurn g j active b → HasTurn g' j active b
  has_turn j active b s x = (s.turn ∙ x.0, s.called ∙ x.1, x.2)

  last_seg : SameTurn g g' → g'.segs g'.last ≡ g.segs g.last
  last_seg s = ap g'.segs s.last ∙ k.segs g.last (le_refl g.last)

  now_seg : (s : SameTurn g g') → suc g.now ≡ g.last → (g'.segs g'.now).place ≡ (g.segs g.now).place
  now_seg s e = ap (λ (z : ℕ). (g'.segs z).place) s.now ∙ ap (λ (z : Seg). z.place) (k.segs g.now (omega arith))

  pub free_stays : (p : ℕ) → SameTurn g g' → IsFree g p → IsFree g' p
  free_stays p s x = (
    λ e. x.0 (e ∙ ap (λ (z : Seg). z.place) (last_seg s)),
    λ n h. subst (λ (z : ℕ). n < z) (sym s.low) (x.1 n (sym (s.home p) ∙ h)),
    λ n h. let a = s.watch n in let b = x.2 n (sym (s.home p) ∙ h) in omega arith,
    let a = s.untold p x.1 in let b = x.3 in omega arith,
  )

  pub stage_stays : (j : ℕ) (active : Type 0) (b : ℕ) (w : Stage) → (g.turn ≡ suc j → SameTurn g g') → (g'.turn ≡ suc j → g.turn ≡ suc j) → StageOk g j active b w → StageOk g' j active b w
  stage_stays j active b Away same got x = λ t. x (got t)
  stage_stays j active b Plain same got x = let s = same x.0.0 in (has_turn j active b s x.0, s.shut ∙ x.1, s.prep ∙ x.2, s.now ∙ (x.3 ∙ sym s.last))
  stage_stays j active b (Closed q t u) same got x = let s = same x.0.0 in let e = last_seg s in
      (has_turn j active b s x.0, s.shut ∙ x.1, s.prep ∙ x.2, s.now ∙ (x.3 ∙ sym s.last), s.put x.1 ∙ x.4, ap (λ (z : Seg). z.place) e ∙ x.5, λ y. subst (λ (z : Seg). z.start + z.len ≤ t) (sym e) (x.6 y))
  stage_stays j active b (Preparing d q a n w) same got x = let s = same x.0.0 in let e = last_seg s in
      (has_turn j active b s x.0, s.shut ∙ x.1, s.prep ∙ x.2, s.now ∙ (x.3 ∙ sym s.last), s.put x.1 ∙ x.4, s.plan ∙ x.5, s.written ∙ x.6, ap (λ (z : Seg). z.place) e ∙ x.7)
  stage_stays j active b (Found q t p) same got x = let s = same x.0.0 in let e = last_seg s in
      (has_turn j active b s x.0, s.shut ∙ x.1, s.prep ∙ x.2, s.now ∙ (x.3 ∙ sym s.last), s.put x.1 ∙ x.4, ap (λ (z : Seg). z.place) e ∙ x.5, subst (λ (z : Seg). z.start + z.len ≤ t) (sym e) x.6, free_stays p s x.7)
  stage_stays j active b (Opened d q t) same got x = let s = same x.0.0 in let e = last_seg s in
      (has_turn j active b s x.0, s.shut ∙ x.1, s.prep ∙ x.2, ap suc s.now ∙ (x.3 ∙ sym s.last), s.linked ∙ (x.4 ∙ sym s.now), ap (λ (z : Seg). z.place) e ∙ x.5, ap (λ (z : Seg). z.start) e ∙ x.6, now_seg s x.3 ∙ x.7)
  stage_stays j active b (Linked q t) same got x = let s = same x.0.0 in let e = last_seg s in
      (has_turn j active b s x.0, s.shut ∙ x.1, s.prep ∙ x.2, ap suc s.now ∙ (x.3 ∙ sym s.last), s.linked ∙ (x.4 ∙ sym s.last), ap (λ (z : Seg). z.place) e ∙ x.5, ap (λ (z : Seg). z.start) e ∙ x.6)
  stage_stays j active b (Observing q t d n p) same got x = let s = same x.0.0 in let e = last_seg s in
      (has_turn j active b s x.0, s.shut ∙ x.1, s.prep ∙ x.2, s.now ∙ (x.3 ∙ sym s.last), s.put x.1 ∙ x.4, ap (λ (z : Seg). z.place) e ∙ x.5, s.low ∙ x.6, x.7, le_trans x.8 k.last_up, ap (λ (z : Seg). z.place) (k.segs n x.8) ∙ x.9)

-- the view of another seat stays
pub view_stays : (f : Form) (g g' : Ghosts) (j : ℕ) (v : View) → ChainOk g.segs g.low g.last g.taken g.put → HomeOk g.segs g.low g.last g.home → Rely f j v g g' → ViewOk f g j v → ViewOk f g' j v
view_stays f g g' j v c h r x = record {
  of_object = x.of_object;
  of_callers = x.of_callers;
  holds = r.holds x.holds;
  joint = x.joint;
  notes = notes_stay g g' c r.grows j (IsWhole v) (λ w. let s = r.still w in (s.0, s.1)) h r.turns (λ e. same_chain g g' (r.turned e)) (λ w. (r.still w).2) v.notes x.notes;
  hand = hand_stays g g' c r.grows h j (HasNumber v.held v.caller) v.caller v.hand r.hand_place r.held x.hand;
  ties = λ q i e. x.ties q i (r.given q i e);
  stage = stage_stays g g' c r.grows j (HasNumber v.held v.caller) v.caller v.stage r.turned r.turns x.stage;
  window = window_fact_stays g g' c r.grows h v.window r.window_place x.window;
  owned = x.owned;
}
