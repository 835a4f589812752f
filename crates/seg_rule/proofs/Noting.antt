-- What a view notes at a load is so.
use Rattle.std.proofs.Common.{◌≡◌, ◌≢◌, ℕ, suc, ◌+◌, ◌*◌, ◌/◌, ◌%◌, ◌<◌, ◌≤◌, ◌⊎◌, inl, inr, ⊎_elim, eqb, ltb, leb, cond, Bool, true, false, true≢false, not, ◌&&◌, List, sym, refl, ap, ◌∙◌, subst, arith, le_refl, le_trans, eq-eqb, ne_eqb, mod-lt, [], ◌∷◌}
use Rattle.std.proofs.lemmas.Bool.{cond_both, and_parts, eqb-true, eqb-false, ltb-true, leb-true, cases_lt, cases_eq}
use mathlib.Core.Option.{some}
use lib.ListN.{get_elem?}
use Rattle.std.specs.Prelude.{Option, Some, None, IfSome}
use Rattle.passes.specs.Numbers.{HasNumber}
use Rattle.seg_rule.specs.declared.form.Form.{Form}
use Rattle.seg_rule.specs.declared.word.QueueWord.{QueueWord}
use Rattle.seg_rule.specs.declared.word.QueueWord.TheVariants.{Head, Turn, Current, First, Tail, Start, Length, Observers, Done, Next, Segment, Number, Item}
use Rattle.seg_rule.specs.declared.view.View.{View}
use Rattle.seg_rule.specs.declared.view.Notes.{Notes}
use Rattle.seg_rule.specs.declared.view.OpenTail.{OpenTail}
use Rattle.seg_rule.specs.declared.view.Front.{Front}
use Rattle.seg_rule.specs.declared.view.Candidate.{Candidate}
use Rattle.seg_rule.specs.declared.view.Scan.{Scan}
use Rattle.seg_rule.specs.declared.view.Stage.{Stage}
use Rattle.seg_rule.specs.declared.view.Stage.TheVariants.{Away, Plain, Closed, Found, Preparing, Opened, Linked, Observing}
use Rattle.seg_rule.specs.Words.{Memory, IsWord}
use Rattle.seg_rule.specs.Chain.{end_of}
use Rattle.seg_rule.specs.Slots.{SlotOk}
use Rattle.seg_rule.specs.Rule.{Ghosts, IsWhole, HeadNote, TailSeen, TailFact, FrontFact, NotesOk, CandidateSeen, LengthAt, NextAt, IsPast, ScanSeen, OutOfChain, StageOk, ViewOk, Kept, tail_word}
use Rattle.seg_rule.specs.Loads.{is_read, is_other, is_below, head_if, has_turn, has_closed, tail_note, length_note, segment_note, slot_note, number_tail, number_front, item_note, is_slot_of, is_front_slot, is_gone_by, first_scan, current_scan, open_scan, closed_scan, tail_scan, start_note, is_spent_by, done_note, noted}
use Rattle.seg_rule.proofs.Tails.{tail_even}
use Rattle.seg_rule.proofs.Slots.{slot_position, slot_tells}
use Rattle.seg_rule.proofs.Looks.{head_noted, tail_noted, length_noted, segment_noted, number_noted, front_noted, item_noted}
use Rattle.seg_rule.proofs.Scanning.{out_of_chain, none_unfinished}

-- what was read has what is known of it
pub read_fact : (P : ℕ → Type 0) (x : ℕ) (o : Option ℕ) → IfSome o P → is_read o x ≡ true → P x
read_fact P x None s e = absurd (true≢false (sym e))
read_fact P x (Some y) s e = subst P (eqb-true y x e) s

other_fact : (P : ℕ → Type 0) (x : ℕ) (o : Option ℕ) → IfSome o P → is_other o x ≡ true → (y : ℕ) × P y × (y ≢ x)
other_fact P x None s e = absurd (true≢false (sym e))
other_fact P x (Some y) s e = (y, s, λ same. true≢false (sym e ∙ ap not (eq-eqb y x same)))

pub head_fact : (P : ℕ → Type 0) (b : Bool) (h old : Option ℕ) → (b ≡ true → IfSome h P) → IfSome old P → IfSome (head_if b h old) P
head_fact P b h old new was = cond_both b h old (λ o. IfSome o P) new (λ _. was)

-- a head below x
below_fact : (P : ℕ → Type 0) (x : ℕ) (h : Option ℕ) → ((y : ℕ) → h ≡ Some y → y < x → P y) → is_below h x ≡ true → IfSome h P
below_fact P x None f e = tt
below_fact P x (Some y) f e = f y refl (ltb-true y x e)

pub some_fact : (P : ℕ → Type 0) (h : Option ℕ) → ((y : ℕ) → h ≡ Some y → P y) → IfSome h P
some_fact P None f = tt
some_fact P (Some y) f = f y refl

module _ (f : Form) (m : Memory) (views : List View) (id : ℕ) (v : View) (k : Kept f m views) (at : get_elem? views id ≡ some v) where
  abbrev g : Ghosts
  g = k.g

  abbrev ok : ViewOk f g id v
  ok = k.seats.each id v at

  abbrev active : Type 0
  active = HasNumber v.held v.caller

  abbrev Tails : Option OpenTail → Type 0
  Tails = TailFact g (IsWhole v)

  abbrev Fronts : Option Front → Type 0
  Fronts = FrontFact g

  tail_ok : (p x : ℕ) → p < f.places → m (Tail p) ≡ x → (old : Option OpenTail) → Tails old → Tails (tail_note p x old)
  tail_ok p x near now old was = cond_both (eqb (x % 2) 0) (Some (record { place = p; position = x / 2; length = None; number = None; fits = false; full = false })) old Tails
      (λ e. let even : x % 2 ≡ 0 = eqb-true (x % 2) 0 e in tail_noted f m views id v k at p (x / 2) near (now ∙ (let z : x ≡ 2 * (x / 2) = omega arith in z)))
      (λ _. was)

  length_ok : (p x : ℕ) → m (Length p) ≡ x → (o : Option OpenTail) → Tails o → Tails (length_note p x o)
  length_ok p x now None s = tt
  length_ok p x now (Some o) s = cond_both (eqb o.place p) (Some (record o { length = Some x; fits = false; full = false })) (Some o) Tails
      (λ e. length_noted f m views id v k at o x s (ap (λ z. m (Length z)) (eqb-true o.place p e) ∙ now)) (λ _. s)

  segment_ok : (p x : ℕ) → m (Segment p) ≡ x → (o : Option OpenTail) → Tails o → Tails (segment_note p x o)
  segment_ok p x now None s = tt
  segment_ok p x now (Some o) s = cond_both (eqb o.place p) (Some (record o { number = Some x })) (Some o) Tails
      (λ e. segment_noted f m views id v k at o x s (ap (λ z. m (Segment z)) (eqb-true o.place p e) ∙ now)) (λ _. s)

  -- a tail of which no slot is known
  unknown_slot : (o : OpenTail) → TailSeen g (IsWhole v) o → TailSeen g (IsWhole v) (record o { fits = false; full = false })
  unknown_slot o s = record {
    segment = s.segment;
    there = s.there;
    exact = s.exact;
    sized = s.sized;
    numbered = s.numbered;
    slot = λ n e b. absurd (true≢false (sym b));
    turned = λ b. absurd (true≢false (sym b));
  }

  slot_ok : (p i x : ℕ) → m (Number p i) ≡ x → (o : OpenTail) → TailSeen g (IsWhole v) o → (l : Option ℕ) → o.length ≡ l → Tails (slot_note p i x o l)
  slot_ok p i x now o s None e = unknown_slot o s
  slot_ok p i x now o s (Some n) sized = cond_both (eqb o.place p && eqb (o.position % n) i) (Some (record o { fits = eqb x (2 * o.position); full = not (eqb x (2 * o.position)) })) (Some (record o { fits = false; full = false })) Tails
      (λ e. let a = and_parts (eqb o.place p) (eqb (o.position % n) i) e in
      number_noted f m views id v k at o n x sized s ((λ j. m (Number (eqb-true o.place p a.0 j) (eqb-true (o.position % n) i a.1 j))) ∙ now))
      (λ _. unknown_slot o s)

  number_tail_ok : (p i x : ℕ) → m (Number p i) ≡ x → (o : Option OpenTail) → Tails o → Tails (number_tail p i x o)
  number_tail_ok p i x now None s = tt
  number_tail_ok p i x now (Some o) s = slot_ok p i x now o s o.length refl

  number_front_ok : (p i x : ℕ) → m (Number p i) ≡ x → (h : Option ℕ) → HeadNote g (IsWhole v) h → Fronts (number_front h p i x)
  number_front_ok p i x now None n = tt
  number_front_ok p i x now (Some h) n = cond_both (eqb x (2 * h + 1)) (Some (record { position = h; place = p; slot = i; item = None })) None Fronts
      (λ e. front_noted f m views id v k at p i h n (now ∙ eqb-true x (2 * h + 1) e)) (λ _. tt)

  item_ok : (p i x : ℕ) → m (Item p i) ≡ x → (o : Option Front) → Fronts o → Fronts (item_note p i x o)
  item_ok p i x now None s = tt
  item_ok p i x now (Some o) s = cond_both (eqb o.place p && eqb o.slot i) (Some (record o { item = Some x })) (Some o) Fronts
      (λ e. let a = and_parts (eqb o.place p) (eqb o.slot i) e in item_noted f m views id v k at o x s ((λ j. m (Item (eqb-true o.place p a.0 j) (eqb-true o.slot i a.1 j))) ∙ now))
      (λ _. s)

  -- The chain, as the holder of the turn reads it.

  -- while the tail is closed the current place is the last one
  pub shut_now : (s : Stage) → StageOk g id active v.caller s → g.turn ≡ suc id → g.shut ≡ 1 → g.now ≡ g.last
  shut_now Away y t e = absurd (y t)
  shut_now Plain y t e = absurd (let z : 0 ≡ 1 = sym y.1 ∙ e in omega arith)
  shut_now (Closed q a u) y t e = y.3
  shut_now (Found q a u) y t e = y.3
  shut_now (Preparing d q a n w) y t e = y.3
  shut_now (Opened d q a) y t e = absurd (let z : 0 ≡ 1 = sym y.1 ∙ e in omega arith)
  shut_now (Linked q a) y t e = absurd (let z : 0 ≡ 1 = sym y.1 ∙ e in omega arith)
  shut_now (Observing q a b n p) y t e = y.3

  pub turn_mine : (s : Stage) → StageOk g id active v.caller s → has_turn s ≡ true → g.turn ≡ suc id
  turn_mine Away y e = absurd (true≢false (sym e))
  turn_mine Plain y e = y.0.0
  turn_mine (Closed q a u) y e = y.0.0
  turn_mine (Found q a u) y e = y.0.0
  turn_mine (Preparing d q a n w) y e = y.0.0
  turn_mine (Opened d q a) y e = y.0.0
  turn_mine (Linked q a) y e = y.0.0
  turn_mine (Observing q a b n p) y e = y.0.0

  closed_calm : (s : Stage) → StageOk g id active v.caller s → has_closed s ≡ true → (g.prep ≡ 0) × (g.now ≡ g.last)
  closed_calm Away y e = absurd (true≢false (sym e))
  closed_calm Plain y e = absurd (true≢false (sym e))
  closed_calm (Closed q a u) y e = (y.2, y.3)
  closed_calm (Found q a u) y e = absurd (true≢false (sym e))
  closed_calm (Preparing d q a n w) y e = absurd (true≢false (sym e))
  closed_calm (Opened d q a) y e = absurd (true≢false (sym e))
  closed_calm (Linked q a) y e = absurd (true≢false (sym e))
  closed_calm (Observing q a b n p) y e = absurd (true≢false (sym e))

  now_last : g.now ≤ g.last
  now_last = let o = k.words.links.order in let a = o.1 in let b = o.2 in omega arith

  -- the first place is the current one
  low_now : (g.segs g.low).place ≡ (g.segs g.now).place → g.low ≡ g.now
  low_now e = ⊎_elim (λ (s : g.low ≡ g.now). s) (λ (n : g.low ≢ g.now). let o = k.words.links.order in absurd (k.words.chain.apart g.low g.now (le_refl _) (let a = o.0 in omega arith) now_last e)) (cases_eq g.low g.now)

  -- the closed tail of a segment of the chain is its end
  pub closed_end : (n p e : ℕ) → g.low ≤ n → n ≤ g.last → (g.segs n).place ≡ p → p < f.places → m (Tail p) ≡ 2 * e + 1 → ((n ≡ g.last) × (g.shut ≡ 1) × (end_of g.segs g.last g.put n ≡ e)) ⊎ ((n < g.last) × ((g.segs (suc n)).start ≡ e) × (end_of g.segs g.last g.put n ≡ e))
  closed_end n p e low high there near now =
      let home : g.home p ≡ suc n = ap g.home (sym there) ∙ k.words.homes.chain n low high in
      let word : m (Tail p) ≡ tail_word g.segs g.last g.put g.shut (suc n) = k.words.tails p near ∙ ap (tail_word g.segs g.last g.put g.shut) home in
      ⊎_elim
      (λ (s : n ≡ g.last). let w : m (Tail p) ≡ 2 * g.put + g.shut = word ∙ ap (λ b. cond b (2 * g.put + g.shut) (2 * (g.segs (suc n)).start + 1)) (eq-eqb n g.last s) in
      let bit = k.words.turns.bit in inl (s, omega arith, ap (λ b. cond b g.put ((g.segs (suc n)).start)) (eq-eqb n g.last s) ∙ omega arith))
      (λ (d : n ≢ g.last). let w : m (Tail p) ≡ 2 * (g.segs (suc n)).start + 1 = word ∙ ap (λ b. cond b (2 * g.put + g.shut) (2 * (g.segs (suc n)).start + 1)) (ne_eqb n g.last d) in
      inr (omega arith, omega arith, ap (λ b. cond b g.put ((g.segs (suc n)).start)) (ne_eqb n g.last d) ∙ omega arith))
      (cases_eq n g.last)

  module _ (turn : g.turn ≡ suc id) (h : Option ℕ) (hn : HeadNote g (IsWhole v) h) (o : Scan) (s : ScanSeen g o) where
    noted_head : (y : ℕ) → h ≡ Some y → y ≤ g.taken
    noted_head y e = let n : HeadNote g (IsWhole v) (Some y) = subst (HeadNote g (IsWhole v)) e hn in n.0

    first_ok : (x : ℕ) → m First ≡ x → ScanSeen g (first_scan x h o)
    first_ok x now = let there : (g.segs g.low).place ≡ x = sym k.words.links.first_is ∙ now in record {
      first = there;
      current = s.current;
      length = s.length;
      next = s.next;
      moved = s.moved;
      past = head_fact (IsPast g) (is_read o.current x) h o.past
          (λ b. some_fact (IsPast g) h (λ y e. (noted_head y e, inl (low_now (there ∙ sym (read_fact (λ p. (g.now ≤ g.last) × ((g.segs g.now).place ≡ p)) x o.current s.current b).1))))) s.past;
      inside = s.inside;
      candidate = s.candidate;
    }

    current_ok : (x : ℕ) → m Current ≡ x → ScanSeen g (current_scan x h o)
    current_ok x now = let there : (g.segs g.now).place ≡ x = sym k.words.links.current_is ∙ now in record {
      first = s.first;
      current = (now_last, there);
      length = s.length;
      next = s.next;
      moved = s.moved;
      past = head_fact (IsPast g) (is_read o.first x) h o.past
          (λ b. some_fact (IsPast g) h (λ y e. (noted_head y e, inl (low_now (read_fact (λ p. (g.segs g.low).place ≡ p) x o.first s.first b ∙ sym there))))) s.past;
      inside = s.inside;
      candidate = s.candidate;
    }

    open_ok : (p t : ℕ) → p < f.places → m (Tail p) ≡ 2 * t → ScanSeen g (open_scan p t h o)
    open_ok p t near now = let e = tail_even g.segs g.last g.put g.shut (g.home p) t (sym (k.words.tails p near) ∙ now) k.words.turns.bit in record {
      first = s.first;
      current = s.current;
      length = s.length;
      next = s.next;
      moved = s.moved;
      past = s.past;
      inside = head_fact (λ a. a < end_of g.segs g.last g.put g.low) (is_read o.first p && is_below h t) h o.inside
          (λ b. let a = and_parts (is_read o.first p) (is_below h t) b in
          let there = read_fact (λ q. (g.segs g.low).place ≡ q) p o.first s.first a.0 in
          let same : g.low ≡ g.last = (let z : suc g.low ≡ suc g.last = sym (k.words.homes.chain g.low (le_refl _) k.words.chain.inside) ∙ (ap g.home there ∙ e.0) in omega arith) in
          let end : end_of g.segs g.last g.put g.low ≡ t = ap (λ b. cond b g.put ((g.segs (suc g.low)).start)) (eq-eqb g.low g.last same) ∙ e.1 in
          below_fact (λ a. a < end_of g.segs g.last g.put g.low) t h (λ y i l. subst (λ z. y < z) (sym end) l) a.1) s.inside;
      candidate = s.candidate;
    }

    closed_ok : (p e : ℕ) → p < f.places → m (Tail p) ≡ 2 * e + 1 → ScanSeen g (closed_scan p e h o)
    closed_ok p e near now = record {
      first = s.first;
      current = s.current;
      length = s.length;
      next = s.next;
      moved = s.moved;
      past = head_fact (IsPast g) (is_read o.first p && is_below h e) h o.past
          (λ b. let a = and_parts (is_read o.first p) (is_below h e) b in let there = read_fact (λ q. (g.segs g.low).place ≡ q) p o.first s.first a.0 in
          below_fact (IsPast g) e h (λ y i l. (
            noted_head y i,
            ⊎_elim
                (λ (z : (g.low ≡ g.last) × (g.shut ≡ 1) × (end_of g.segs g.last g.put g.low ≡ e)). inl (z.0 ∙ sym (shut_now v.stage ok.stage turn z.1)))
                (λ (z : (g.low < g.last) × ((g.segs (suc g.low)).start ≡ e) × (end_of g.segs g.last g.put g.low ≡ e)). inr (z.0, subst (λ c. y < c) (sym z.1) l))
                (closed_end g.low p e (le_refl _) k.words.chain.inside there near now),
          )) a.1) s.past;
      inside = head_fact (λ a. a < end_of g.segs g.last g.put g.low) (is_read o.first p && is_below h e) h o.inside
          (λ b. let a = and_parts (is_read o.first p) (is_below h e) b in let there = read_fact (λ q. (g.segs g.low).place ≡ q) p o.first s.first a.0 in
          below_fact (λ c. c < end_of g.segs g.last g.put g.low) e h (λ y i l. subst (λ z. y < z) (sym (⊎_elim
          (λ (z : (g.low ≡ g.last) × (g.shut ≡ 1) × (end_of g.segs g.last g.put g.low ≡ e)). z.2)
          (λ (z : (g.low < g.last) × ((g.segs (suc g.low)).start ≡ e) × (end_of g.segs g.last g.put g.low ≡ e)). z.2)
          (closed_end g.low p e (le_refl _) k.words.chain.inside there near now))) l) a.1) s.inside;
      candidate = cond_both (is_other o.current p) (Some (record { place = p; end = e; start = None; spent = false })) o.candidate (λ c. IfSome c (CandidateSeen g))
          (λ b. let c = other_fact (λ q. (g.now ≤ g.last) × ((g.segs g.now).place ≡ q)) p o.current s.current b in
          record { ends = ends c.0 c.1 c.2; starts = tt; spent = λ z. absurd (true≢false (sym z)) })
          (λ _. s.candidate);
    }
      where
        -- a place beside the current one
        ends : (c : ℕ) → (g.now ≤ g.last) × ((g.segs g.now).place ≡ c) → c ≢ p → (n : ℕ) → g.home p ≡ suc n → (n < g.last) × ((g.segs (suc n)).start ≡ e)
        ends c at_now other n home =
            let there = k.words.homes.there p n home in
            let word : m (Tail p) ≡ tail_word g.segs g.last g.put g.shut (suc n) = k.words.tails p near ∙ ap (tail_word g.segs g.last g.put g.shut) home in
            ⊎_elim
            (λ (z : n ≡ g.last). absurd (
            let w : m (Tail p) ≡ 2 * g.put + g.shut = word ∙ ap (λ b. cond b (2 * g.put + g.shut) (2 * (g.segs (suc n)).start + 1)) (eq-eqb n g.last z) in
            let bit = k.words.turns.bit in let shut : g.shut ≡ 1 = omega arith in
            other (sym at_now.1 ∙ (ap (λ y. (g.segs y).place) (shut_now v.stage ok.stage turn shut ∙ sym z) ∙ there.1))))
            (λ (d : n ≢ g.last). let w : m (Tail p) ≡ 2 * (g.segs (suc n)).start + 1 = word ∙ ap (λ b. cond b (2 * g.put + g.shut) (2 * (g.segs (suc n)).start + 1)) (ne_eqb n g.last d) in
            let l = there.0 in (omega arith, omega arith))
            (cases_eq n g.last)

    tail_scan_ok : (p x : ℕ) → p < f.places → m (Tail p) ≡ x → ScanSeen g (tail_scan p x h o)
    tail_scan_ok p x near now = cond_both (eqb (x % 2) 0) (open_scan p (x / 2) h o) (closed_scan p (x / 2) h o) (ScanSeen g)
        (λ e. let even : x % 2 ≡ 0 = eqb-true (x % 2) 0 e in open_ok p (x / 2) near (now ∙ (let z : x ≡ 2 * (x / 2) = omega arith in z)))
        (λ e. let odd : x % 2 ≢ 0 = eqb-false (x % 2) 0 e in closed_ok p (x / 2) near (now ∙ (let z : x ≡ 2 * (x / 2) + 1 = omega arith in z)))

    start_ok : (p x : ℕ) → m (Start p) ≡ x → (c : Option Candidate) → IfSome c (CandidateSeen g) → IfSome (start_note p x c) (CandidateSeen g)
    start_ok p x now None y = tt
    start_ok p x now (Some c) y = cond_both (eqb c.place p) (Some (record c { start = Some x; spent = false })) (Some c) (λ z. IfSome z (CandidateSeen g))
        (λ e. record {
          ends = y.ends;
          starts = λ n home idle. sym (k.words.places c.place n home idle).0 ∙ (ap (λ z. m (Start z)) (eqb-true c.place p e) ∙ now);
          spent = λ z. absurd (true≢false (sym z));
        })
        (λ _. y)

    spent_ok : (p x : ℕ) → has_closed v.stage ≡ true → m (Done p) ≡ x → (c : Candidate) → CandidateSeen g c → c.place ≡ p → (st past : Option ℕ) → c.start ≡ st → o.past ≡ past → is_spent_by x c st past ≡ true → OutOfChain g c.place × (g.untold c.place ≡ 0)
    spent_ok p x closed now c y here None past a b e = absurd (true≢false (sym e))
    spent_ok p x closed now c y here (Some a) None b d e = absurd (true≢false (sym e))
    spent_ok p x closed now c y here (Some a) (Some hd) b d e =
        let parts = and_parts (eqb (x + a) c.end) (leb c.end hd) e in let sum = eqb-true (x + a) c.end parts.0 in let le = leb-true c.end hd parts.1 in
        let calm = closed_calm v.stage ok.stage closed in
        let past : IsPast g hd = subst (λ z. IfSome z (IsPast g)) d s.past in
        let starts : (n : ℕ) → g.home c.place ≡ suc n → g.prep ≢ suc c.place → (g.segs n).start ≡ a = subst (λ z. IfSome z (λ r. (n : ℕ) → g.home c.place ≡ suc n → g.prep ≢ suc c.place → (g.segs n).start ≡ r)) b y.starts in
        let idle : g.prep ≢ suc c.place = (λ z. let w : 0 ≡ suc c.place = sym calm.0 ∙ z in omega arith) in (
          out_of_chain f m views id v k at c.place c.end hd y.ends le (⊎_elim (λ (z : g.low ≡ g.now). inl (z ∙ calm.1)) (λ (z : (g.low < g.last) × (hd < (g.segs (suc g.low)).start)). inr z.1) past.1),
          none_unfinished f m views id v k at c.place c.end a x calm.0 y.ends (le_trans le past.0) (λ n home. starts n home idle) (ap (λ z. m (Done z)) here ∙ now) (omega arith),
        )

    done_ok : (p x : ℕ) → m (Done p) ≡ x → (c : Option Candidate) → IfSome c (CandidateSeen g) → IfSome (done_note (has_closed v.stage) p x o.past c) (CandidateSeen g)
    done_ok p x now None y = tt
    done_ok p x now (Some c) y = cond_both (has_closed v.stage && eqb c.place p) (Some (record c { spent = is_spent_by x c c.start o.past })) (Some c) (λ z. IfSome z (CandidateSeen g))
        (λ e. let a = and_parts (has_closed v.stage) (eqb c.place p) e in record {
          ends = y.ends;
          starts = y.starts;
          spent = λ z. spent_ok p x a.0 now c y (eqb-true c.place p a.1) c.start o.past refl refl z;
        })
        (λ _. y)

    length_at : (p x : ℕ) → m (Length p) ≡ x → LengthAt g (p, x)
    length_at p x now n home idle = sym now ∙ (k.words.places p n home idle).1

    next_at : (p x : ℕ) → m (Next p) ≡ x → NextAt g (p, x)
    next_at p x now n low before last there =
        let home = k.words.homes.chain n low (let z : n ≤ g.last = omega arith in z) in
        let idle : g.prep ≢ suc ((g.segs n).place) = (λ e. let a = (k.words.preps.apart ((g.segs n).place) n e home).0 in omega arith) in
        let ord = k.words.links.order in
        sym now ∙ (ap (λ z. m (Next z)) (sym there) ∙ k.words.links.next_is n (let b = ord.1 in omega arith) home idle)

    -- The slot of the head that was read, in the first place, below the end of its segment.
    is_slot : (p i y : ℕ) → (l : Option (ℕ × ℕ)) → IfSome l (LengthAt g) → is_slot_of p i y l ≡ true → (n : ℕ) × LengthAt g (p, n) × (0 < n) × (y % n ≡ i)
    is_slot p i y None q e = absurd (true≢false (sym e))
    is_slot p i y (Some (r, n)) q e =
        let a = and_parts (eqb r p) (ltb 0 n && eqb (y % n) i) e in let b = and_parts (ltb 0 n) (eqb (y % n) i) a.1 in
        (n, subst (λ z. LengthAt g (z, n)) (eqb-true r p a.0) q, ltb-true 0 n b.0, eqb-true (y % n) i b.1)

    pub front_slot : (p i y : ℕ) (b : Bool) → is_front_slot b p i (Some y) o ≡ true → (g.home p ≡ suc g.low) × (g.prep ≢ suc p) × (i < (g.segs g.low).len) × (y % (g.segs g.low).len ≡ i) × (y < end_of g.segs g.last g.put g.low)
    front_slot p i y b e =
        let a = and_parts b (is_read o.inside y && (is_read o.first p && is_slot_of p i y o.length)) e in
        let c = and_parts (is_read o.inside y) (is_read o.first p && is_slot_of p i y o.length) a.1 in
        let d = and_parts (is_read o.first p) (is_slot_of p i y o.length) c.1 in
        let there = read_fact (λ q. (g.segs g.low).place ≡ q) p o.first s.first d.0 in
        let home : g.home p ≡ suc g.low = ap g.home (sym there) ∙ k.words.homes.chain g.low (le_refl _) k.words.chain.inside in
        let idle : g.prep ≢ suc p = (λ z. let low = (k.words.preps.apart p g.low z home).0 in omega arith) in
        let slot = is_slot p i y o.length s.length d.1 in
        let sized : slot.0 ≡ (g.segs g.low).len = slot.1 g.low home idle in
        let two = k.words.chain.some_slot g.low k.words.chain.inside in
        (home, idle, subst (λ z. z < (g.segs g.low).len) (subst (λ z. y % z ≡ i) sized slot.3) (mod-lt y (omega arith)), subst (λ z. y % z ≡ i) sized slot.3, read_fact (λ z. z < end_of g.segs g.last g.put g.low) y o.inside s.inside c.0)

    -- its number tells where the head is
    gone_ok : (p i x : ℕ) → m (Number p i) ≡ x → (y : ℕ) (b : Bool) → is_front_slot b p i (Some y) o ≡ true → is_gone_by (Some y) x ≡ true → y < g.taken
    gone_ok p i x now y b e gone =
        let w = front_slot p i y b e in let n : ℕ = (g.segs g.low).len in
        let ne = and_parts (not (eqb x (2 * y))) (not (eqb x (2 * y + 1))) gone in
        ⊎_elim (λ (l : y < g.taken). l)
        (λ (l : g.taken ≤ y). absurd (
        let base = k.words.chain.base in
        let slot : SlotOk n g.values g.taken (g.segs g.low).start (end_of g.segs g.last g.put g.low) (m (Number p i)) (m (Item p i)) i (g.cells p i) = k.words.slots p g.low i w.0 w.1 w.2 in
        let slot' : SlotOk n g.values g.taken (g.segs g.low).start (end_of g.segs g.last g.put g.low) (m (Number p i)) (m (Item p i)) (y % n) (g.cells p i) = subst (λ z. SlotOk n g.values g.taken (g.segs g.low).start (end_of g.segs g.last g.put g.low) (m (Number p i)) (m (Item p i)) z (g.cells p i)) (sym w.3) slot in
        let pos = slot_position n g.values g.taken (g.segs g.low).start (end_of g.segs g.last g.put g.low) (m (Number p i)) (m (Item p i)) y (g.cells p i) slot' l (le_trans base l) w.4 in
        ⊎_elim
        (λ (z : m (Number p i) ≡ 2 * y). true≢false (sym ne.0 ∙ ap not (eq-eqb x (2 * y) (sym now ∙ z))))
        (λ (z : (m (Number p i) ≡ 2 * y + 1) × (get_elem? g.values y ≡ some (m (Item p i) ∷ []))). true≢false (sym ne.1 ∙ ap not (eq-eqb x (2 * y + 1) (sym now ∙ z.0))))
        (slot_tells n g.values g.taken (g.segs g.low).start (end_of g.segs g.last g.put g.low) (m (Number p i)) (m (Item p i)) i y (g.cells p i) slot pos w.4)))
        (cases_lt y g.taken)

  number_gone_ok : (p i x : ℕ) → m (Number p i) ≡ x → (o : Notes) → NotesOk g id (IsWhole v) o → (h : Option ℕ) → o.head ≡ h → IfSome (head_if (is_front_slot (has_turn v.stage) p i h o.scan && is_gone_by h x) h o.gone) (λ a. a < g.taken)
  number_gone_ok p i x now o s None e = s.gone
  number_gone_ok p i x now o s (Some y) e = head_fact (λ a. a < g.taken) (is_front_slot (has_turn v.stage) p i (Some y) o.scan && is_gone_by (Some y) x) (Some y) o.gone
      (λ b. let a = and_parts (is_front_slot (has_turn v.stage) p i (Some y) o.scan) (is_gone_by (Some y) x) b in
      let t = turn_mine v.stage ok.stage (and_parts (has_turn v.stage) (is_read o.scan.inside y && (is_read o.scan.first p && is_slot_of p i y o.scan.length)) a.0).0 in
      gone_ok t o.head s.head o.scan (s.scan t) p i x now y (has_turn v.stage) a.0 a.1)
      s.gone

  -- No load changes the place of the tail noted, but for one of an open tail, which is that of the last place.

  abbrev Newest : Option OpenTail → Type 0
  Newest o = IfSome o (λ t. (g.segs g.last).place ≡ t.place)

  tail_newest : (p x : ℕ) → p < f.places → m (Tail p) ≡ x → (old : Option OpenTail) → Newest old → Newest (tail_note p x old)
  tail_newest p x near now old was = cond_both (eqb (x % 2) 0) (Some (record { place = p; position = x / 2; length = None; number = None; fits = false; full = false })) old Newest
      (λ e. let even : x % 2 ≡ 0 = eqb-true (x % 2) 0 e in
      let l = tail_even g.segs g.last g.put g.shut (g.home p) (x / 2) (sym (k.words.tails p near) ∙ (now ∙ (let z : x ≡ 2 * (x / 2) = omega arith in z))) k.words.turns.bit in (k.words.homes.there p g.last l.0).1)
      (λ _. was)

  length_newest : (p x : ℕ) (o : Option OpenTail) → Newest o → Newest (length_note p x o)
  length_newest p x None s = tt
  length_newest p x (Some o) s = cond_both (eqb o.place p) (Some (record o { length = Some x; fits = false; full = false })) (Some o) Newest (λ _. s) (λ _. s)

  segment_newest : (p x : ℕ) (o : Option OpenTail) → Newest o → Newest (segment_note p x o)
  segment_newest p x None s = tt
  segment_newest p x (Some o) s = cond_both (eqb o.place p) (Some (record o { number = Some x })) (Some o) Newest (λ _. s) (λ _. s)

  slot_newest : (p i x : ℕ) (o : OpenTail) → (g.segs g.last).place ≡ o.place → (l : Option ℕ) → Newest (slot_note p i x o l)
  slot_newest p i x o s None = s
  slot_newest p i x o s (Some n) = cond_both (eqb o.place p && eqb (o.position % n) i) (Some (record o { fits = eqb x (2 * o.position); full = not (eqb x (2 * o.position)) })) (Some (record o { fits = false; full = false })) Newest (λ _. s) (λ _. s)

  number_newest : (p i x : ℕ) (o : Option OpenTail) → Newest o → Newest (number_tail p i x o)
  number_newest p i x None s = tt
  number_newest p i x (Some o) s = slot_newest p i x o s o.length

  pub noted_ok : (w : QueueWord) (x : ℕ) → IsWord f.places f.slots w → m w ≡ x → (o : Notes) → NotesOk g id (IsWhole v) o → NotesOk g id (IsWhole v) (noted v.stage w x o)
  noted_ok Head x near now o s = record { head = head_noted f m views id v k at x now; gone = s.gone; tail = s.tail; newest = s.newest; front = s.front; scan = s.scan }
  noted_ok Turn x near now o s = s
  noted_ok Current x near now o s = record { head = s.head; gone = s.gone; tail = s.tail; newest = s.newest; front = s.front; scan = λ t. current_ok t o.head s.head o.scan (s.scan t) x now }
  noted_ok First x near now o s = record { head = s.head; gone = s.gone; tail = s.tail; newest = s.newest; front = s.front; scan = λ t. first_ok t o.head s.head o.scan (s.scan t) x now }
  noted_ok (Tail p) x near now o s = let l : p < f.places = (let z = near.0 in omega arith) in
      record { head = s.head; gone = s.gone; tail = tail_ok p x l now o.tail s.tail; newest = λ w. tail_newest p x l now o.tail (s.newest w); front = s.front; scan = λ t. tail_scan_ok t o.head s.head o.scan (s.scan t) p x l now }
  noted_ok (Start p) x near now o s = record {
    head = s.head;
    gone = s.gone;
    tail = s.tail;
    newest = s.newest;
    front = s.front;
    scan = λ t. let c = s.scan t in
        record { first = c.first; current = c.current; length = c.length; next = c.next; past = c.past; inside = c.inside; moved = c.moved; candidate = start_ok t o.head s.head o.scan c p x now o.scan.candidate c.candidate };
  }
  noted_ok (Length p) x near now o s = record {
    head = s.head;
    gone = s.gone;
    tail = length_ok p x now o.tail s.tail;
    newest = λ w. length_newest p x o.tail (s.newest w);
    front = s.front;
    scan = λ t. let c = s.scan t in
        record { first = c.first; current = c.current; length = length_at t o.head s.head o.scan c p x now; next = c.next; past = c.past; inside = c.inside; moved = c.moved; candidate = c.candidate };
  }
  noted_ok (Observers p) x near now o s = record {
    head = s.head;
    gone = s.gone;
    tail = s.tail;
    newest = s.newest;
    front = s.front;
    scan = λ t. let c = s.scan t in
        record { first = c.first; current = c.current; length = c.length; next = c.next; past = c.past; inside = c.inside; moved = c.moved; candidate = c.candidate };
  }
  noted_ok (Done p) x near now o s = record {
    head = s.head;
    gone = s.gone;
    tail = s.tail;
    newest = s.newest;
    front = s.front;
    scan = λ t. let c = s.scan t in
        record { first = c.first; current = c.current; length = c.length; next = c.next; past = c.past; inside = c.inside; moved = c.moved; candidate = done_ok t o.head s.head o.scan c p x now o.scan.candidate c.candidate };
  }
  noted_ok (Next p) x near now o s = record {
    head = s.head;
    gone = s.gone;
    tail = s.tail;
    newest = s.newest;
    front = s.front;
    scan = λ t. let c = s.scan t in
        record { first = c.first; current = c.current; length = c.length; next = next_at t o.head s.head o.scan c p x now; past = c.past; inside = c.inside; moved = c.moved; candidate = c.candidate };
  }
  noted_ok (Segment p) x near now o s = record { head = s.head; gone = s.gone; tail = segment_ok p x now o.tail s.tail; newest = λ w. segment_newest p x o.tail (s.newest w); front = s.front; scan = s.scan }
  noted_ok (Number p i) x near now o s = record { head = s.head; gone = number_gone_ok p i x now o s o.head refl; tail = number_tail_ok p i x now o.tail s.tail; newest = λ w. number_newest p i x o.tail (s.newest w); front = number_front_ok p i x now o.head s.head; scan = s.scan }
  noted_ok (Item p i) x near now o s = record { head = s.head; gone = s.gone; tail = s.tail; newest = s.newest; front = item_ok p i x now o.front s.front; scan = s.scan }
