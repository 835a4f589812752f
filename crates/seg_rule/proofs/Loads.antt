-- A load of any word keeps the rule.
use Rattle.std.proofs.Common.{◌≡◌, ◌≢◌, ℕ, zero, suc, ◌+◌, ◌*◌, ◌/◌, ◌%◌, ◌<◌, ◌≤◌, inl, ⊎_elim, eqb, cond, Bool, true, false, true≢false, ◌&&◌, List, [], ◌∷◌, ◌++◌, set, sym, refl, ap, ◌∙◌, subst, arith, le_refl, le_trans, eq-eqb, ne_eqb, slice_get}
use Rattle.std.proofs.lemmas.Bool.{cond_both, and_parts, eqb-true, cases_eq}
use mathlib.Core.Option.{some}
use lib.ListN.{get_elem?}
use Rattle.std.specs.Prelude.{Option, Some, None, IfSome}
use Rattle.atomic_table.proofs.Lists.{set_here, set_again}
use Rattle.ho_model.specs.declared.marks.EntryMark.{EntryMark}
use Rattle.passes.specs.Numbers.{HasNumber}
use Rattle.passes.proofs.Seats.{at_inside}
use Rattle.passes.proofs.Seen.{sees_same}
use Rattle.seg_rule.specs.declared.form.Form.{Form}
use Rattle.seg_rule.specs.declared.word.QueueWord.{QueueWord}
use Rattle.seg_rule.specs.declared.word.QueueWord.TheVariants.{Head, Turn, Current, First, Tail, Start, Length, Observers, Done, Next, Segment, Number, Item}
use Rattle.seg_rule.specs.declared.view.View.{View}
use Rattle.seg_rule.specs.declared.view.Candidate.{Candidate}
use Rattle.seg_rule.specs.declared.view.Window.{Window}
use Rattle.seg_rule.specs.declared.view.Leave.{Leave}
use Rattle.seg_rule.specs.declared.view.Leave.TheVariants.{Unread, Granted, Measured, Refused, Released}
use Rattle.seg_rule.specs.declared.view.Hand.{Hand}
use Rattle.seg_rule.specs.declared.view.Hand.TheVariants.{Nothing, Reserved, Stored, Taking}
use Rattle.seg_rule.specs.declared.view.Stage.{Stage}
use Rattle.seg_rule.specs.declared.view.Stage.TheVariants.{Away, Plain, Closed, Found, Preparing, Opened, Linked, Observing}
use Rattle.seg_rule.specs.Words.{Memory, IsWord}
use Rattle.seg_rule.specs.Chain.{end_of}
use Rattle.seg_rule.specs.Slots.{Cell}
use Rattle.seg_rule.specs.Rule.{Ghosts, Shows, HandOk, IsShape, IsWhole, HeadNote, TailFact, tail_word, CandidateSeen, WindowOk, WindowFact, WindowOwned, StageOk, ViewOk, Kept, in_range, flag}
use Rattle.seg_rule.specs.Steps.{in_hand, blank}
use Rattle.seg_rule.specs.declared.view.OpenTail.{OpenTail}
use Rattle.seg_rule.specs.Tells.{TellsWindow, IsAbove, IsBeside, IsFrom, Told, IsInFlight, Sees, is_idle, sees_in_flight, places_in, slots_in, room_in, first_len_in, place_count, slot_count}
use Rattle.seg_layout.specs.Lengths.{IsSegmentLength}
use Rattle.seg_rule.specs.Plays.{Reads}
use Rattle.seg_rule.specs.Loads.{is_read, is_slot_of, is_front_slot, is_free_by, has_turn, has_closed, hand_at, leave_by, measured_by, is_spent_at, found_at, at_first, obstacles, window_obstacles, noted, is_at_rest, begins_call, begun, told, loaded}
use Rattle.seg_rule.proofs.Tails.{tail_even}
use Rattle.seg_rule.proofs.Begins.{begins_kept}
use Rattle.seg_rule.proofs.Leaves.{leave_given, leave_refused, sized_kept}
use Rattle.seg_rule.proofs.Looks.{entry_grows, entry_turn, own_kept, look_kept}
use Rattle.seg_rule.proofs.Chains.{rises, numbers_high}
use Rattle.seg_rule.proofs.Object.{got}
use Rattle.seg_rule.proofs.Stays.{if_some}
use Rattle.seg_rule.proofs.Frames.{kept_after}
use Rattle.seg_rule.proofs.Bounds.{few_put}
use Rattle.seg_rule.proofs.Causes.{head_moved, tail_moved, in_flight}
use Rattle.seg_rule.proofs.Lawful.{whole_lawful, seen_lawful, taken_counted}
use Rattle.seg_rule.proofs.Noting.{shut_now, closed_end, turn_mine, front_slot, noted_ok}
use Rattle.seg_rule.proofs.Scanning.{found_kept}
use Rattle.seg_rule.proofs.Snapshots.{ends_noted, length_noted, after_noted, shown_noted, tells_window}

set_twice : (views : List View) (i : ℕ) (a b : View) → set (set views i a) i b ≡ set views i b
set_twice [] i a b = refl
set_twice (x ∷ xs) zero a b = refl
set_twice (x ∷ xs) (suc i) a b = ap (λ z. x ∷ z) (set_twice xs i a b)

module _ (f : Form) (m : Memory) (views : List View) (id : ℕ) (v : View) (at : get_elem? views id ≡ some v) where
  -- one thing after another
  pub and_then : (w w' : View) → Kept f m (set views id w) → (Kept f m (set views id w) → get_elem? (set views id w) id ≡ some w → Kept f m (set (set views id w) id w')) → Kept f m (set views id w')
  and_then w w' k next = subst (Kept f m) (set_twice views id w w') (next k (set_here views id w (at_inside views id v at)))

  same_kept : (k : Kept f m views) → Kept f m (set views id v)
  same_kept k = subst (Kept f m) (sym (set_again views id v at)) k

module _ (f : Form) (m : Memory) (views : List View) (id : ℕ) (v : View) (k : Kept f m views) (at : get_elem? views id ≡ some v) where
  abbrev g : Ghosts
  g = k.g

  abbrev ok : ViewOk f g id v
  ok = k.seats.each id v at

  abbrev Hands : Hand → Type 0
  Hands h = Kept f m (set views id (in_hand v h))

  same_hand : (h : Hand) → v.hand ≡ h → Hands h
  same_hand h is = subst Hands is (same_kept f m views id v at k)

  leaves_by : (p q i x : ℕ) → m (Observers q) ≡ x → (l : Leave) → v.hand ≡ Taking p q i l → Hands (Taking p q i (leave_by x l))
  leaves_by p q i x now Unread is = cond_both (eqb x 0) Granted Refused (λ l. Hands (Taking p q i l))
      (λ e. leave_given f m views id v k at p q i is (now ∙ eqb-true x 0 e)) (λ e. leave_refused f m views id v k at p q i is)
  leaves_by p q i x now Granted is = same_hand (Taking p q i Granted) is
  leaves_by p q i x now (Measured n) is = same_hand (Taking p q i (Measured n)) is
  leaves_by p q i x now Refused is = same_hand (Taking p q i Refused) is
  leaves_by p q i x now Released is = same_hand (Taking p q i Released) is

  measures_by : (p q i x : ℕ) → m (Length q) ≡ x → (l : Leave) → v.hand ≡ Taking p q i l → Hands (Taking p q i (measured_by x l))
  measures_by p q i x now Unread is = same_hand (Taking p q i Unread) is
  measures_by p q i x now Granted is = sized_kept f m views id v k at p q i x is now
  measures_by p q i x now (Measured n) is = same_hand (Taking p q i (Measured n)) is
  measures_by p q i x now Refused is = same_hand (Taking p q i Refused) is
  measures_by p q i x now Released is = same_hand (Taking p q i Released) is

  -- the observers or the length of a place, for a take there
  hands_at : (F : Leave → Leave) (q : ℕ) → ((p i : ℕ) (l : Leave) → v.hand ≡ Taking p q i l → Hands (Taking p q i (F l))) → (h : Hand) → v.hand ≡ h → Hands (hand_at F q h)
  hands_at F q there Nothing is = same_hand Nothing is
  hands_at F q there (Reserved p r i x) is = same_hand (Reserved p r i x) is
  hands_at F q there (Stored p r i x) is = same_hand (Stored p r i x) is
  hands_at F q there (Taking p r i l) is = cond_both (eqb r q) (Taking p r i (F l)) (Taking p r i l) Hands
      (λ e. subst (λ z. Hands (Taking p z i (F l))) (sym (eqb-true r q e)) (there p i l (is ∙ ap (λ z. Taking p z i l) (eqb-true r q e))))
      (λ e. same_hand (Taking p r i l) is)

  abbrev Stages : Stage → Type 0
  Stages s = Kept f m (set views id (record v { stage = s }))

  same_stage : (s : Stage) → v.stage ≡ s → Stages s
  same_stage s is = subst Stages is (same_kept f m views id v at k)

  -- the observers of a spent candidate
  finds : (p x : ℕ) → p < f.places → m (Observers p) ≡ x → (s : Stage) → v.stage ≡ s → Stages (found_at p x v.notes.scan.candidate s)
  finds p x near now Away is = same_stage Away is
  finds p x near now Plain is = same_stage Plain is
  finds p x near now (Closed q t false) is = same_stage (Closed q t false) is
  finds p x near now (Closed q t true) is = cond_both (eqb x 0 && is_spent_at p v.notes.scan.candidate) (Found q t p) (Closed q t true) Stages
      (λ e. let a = and_parts (eqb x 0) (is_spent_at p v.notes.scan.candidate) e in
      let st : StageOk g id (HasNumber v.held v.caller) v.caller (Closed q t true) = subst (StageOk g id (HasNumber v.held v.caller) v.caller) is ok.stage in
      let scan = ok.notes.scan st.0.0 in let c = candidate v.notes.scan.candidate scan.candidate a.1 in
      let other : p ≢ q = (λ z. let home : g.home p ≡ suc g.last = ap g.home (z ∙ sym st.5) ∙ k.words.homes.chain g.last k.words.chain.inside (le_refl _) in let l = (c.0 g.last home).0 in omega arith) in
      found_kept f m views id v k at q t p is near other c.1 c.2 (now ∙ eqb-true x 0 a.0))
      (λ e. same_stage (Closed q t true) is)
    where
      candidate : (c : Option Candidate) → IfSome c (CandidateSeen g) → is_spent_at p c ≡ true → ((n : ℕ) → g.home p ≡ suc n → (n < g.last) × (Unit {0})) × ((n : ℕ) → g.home p ≡ suc n → n < g.low) × (g.untold p ≡ 0)
      candidate None y e = absurd (true≢false (sym e))
      candidate (Some c) y e = let a = and_parts (eqb c.place p) c.spent e in let here = eqb-true c.place p a.0 in let s = y.spent a.1 in (
        λ n home. ((y.ends n (ap g.home here ∙ home)).0, tt),
        λ n home. s.0 n (ap g.home here ∙ home),
        ap g.untold (sym here) ∙ s.1,
      )
  finds p x near now (Found q t r) is = same_stage (Found q t r) is
  finds p x near now (Preparing d q t n w) is = same_stage (Preparing d q t n w) is
  finds p x near now (Opened d q t) is = same_stage (Opened d q t) is
  finds p x near now (Linked q t) is = same_stage (Linked q t) is
  finds p x near now (Observing q t b n r) is = same_stage (Observing q t b n r) is

  -- what is noted of the first place of the window
  window_notes : (F : Window → Window) (p : ℕ) → ((o : Window) (n : ℕ) → in_range n (Some o) ≡ in_range n (Some (F o))) → ((o : Window) → WindowOk g o → o.first ≡ p → WindowOk g (F o))
      → (w : Option Window) → v.window ≡ w → Kept f m (set views id (record v { window = at_first F p w }))
  window_notes F p range fact None is = subst (λ w. Kept f m (set views id (record v { window = w }))) is (same_kept f m views id v at k)
  window_notes F p range fact (Some o) is = cond_both (eqb o.first p) (Some (F o)) (Some o) (λ w. Kept f m (set views id (record v { window = w })))
      (λ e. own_kept f m views id v k at (record v { window = Some (F o) })
      record {
        of_object = ok.of_object;
        of_callers = ok.of_callers;
        holds = ok.holds;
        joint = ok.joint;
        notes = ok.notes;
        hand = ok.hand;
        ties = ok.ties;
        stage = ok.stage;
        window = fact o (subst (WindowFact g) is ok.window) (eqb-true o.first p e);
        owned = subst (WindowOwned (HasNumber v.held v.caller)) is ok.owned;
      }
      refl (λ q. refl) (λ n. ap (λ z. flag (in_range n z)) is ∙ ap flag (range o n)) refl)
      (λ e. subst (λ w. Kept f m (set views id (record v { window = w }))) is (same_kept f m views id v at k))

  after_read : (p x : ℕ) → m (Next p) ≡ x → Kept f m (set views id (record v { window = at_first (λ o. record o { after = Some x }) p v.window }))
  after_read p x now = window_notes (λ o. record o { after = Some x }) p (λ o n. refl) (λ o y here. record {
    some = y.some;
    opened = y.opened;
    behind = y.behind;
    first = y.first;
    last = y.last;
    ends = y.ends;
    length = y.length;
    shown = y.shown;
    there = y.there;
    after = after_noted f m views id v k at o y x (ap (λ z. m (Next z)) here ∙ now);
  }) v.window refl

  ends_read : (p x : ℕ) → m (Tail p) ≡ x → Kept f m (set views id (record v { window = at_first (λ o. record o { ends = Some (x / 2) }) p v.window }))
  ends_read p x now = window_notes (λ o. record o { ends = Some (x / 2) }) p (λ o n. refl) (λ o y here. record {
    some = y.some;
    opened = y.opened;
    behind = y.behind;
    first = y.first;
    last = y.last;
    after = y.after;
    length = y.length;
    shown = y.shown;
    there = y.there;
    ends = ends_noted f m views id v k at o y x (ap (λ z. m (Tail z)) here ∙ now);
  }) v.window refl

  length_read : (p x : ℕ) → m (Length p) ≡ x → Kept f m (set views id (record v { window = at_first (λ o. record o { length = Some x }) p v.window }))
  length_read p x now = window_notes (λ o. record o { length = Some x }) p (λ o n. refl) (λ o y here. record {
    some = y.some;
    opened = y.opened;
    behind = y.behind;
    first = y.first;
    last = y.last;
    after = y.after;
    ends = y.ends;
    shown = y.shown;
    there = y.there;
    length = length_noted f m views id v k at o y x (ap (λ z. m (Length z)) here ∙ now);
  }) v.window refl

  shown_read : (p i x : ℕ) → m (Number p i) ≡ x → Kept f m (set views id (record v { window = at_first (λ o. record o { shown = Some (i, x) }) p v.window }))
  shown_read p i x now = window_notes (λ o. record o { shown = Some (i, x) }) p (λ o n. refl) (λ o y here. record {
    some = y.some;
    opened = y.opened;
    behind = y.behind;
    first = y.first;
    last = y.last;
    after = y.after;
    ends = y.ends;
    length = y.length;
    there = y.there;
    shown = shown_noted f m views id v k at o y i x (ap (λ z. m (Number z i)) here ∙ now);
  }) v.window refl

  abbrev noticed : QueueWord → ℕ → View
  noticed w x = record v { met = v.met ++ window_obstacles w x v.window (obstacles v.stage w x v.notes); notes = noted v.stage w x v.notes }

  notices : (w : QueueWord) (x : ℕ) → IsWord f.places f.slots w → m w ≡ x → Kept f m (set views id (noticed w x))
  notices w x near now = look_kept f m views id v k at (noted v.stage w x v.notes) (v.met ++ window_obstacles w x v.window (obstacles v.stage w x v.notes)) (noted_ok f m views id v k at w x near now v.notes ok.notes)

module _ (f : Form) (m : Memory) (views : List View) (id : ℕ) (v : View) (k : Kept f m views) (at : get_elem? views id ≡ some v) where
  pub told_kept : (w : QueueWord) (x : ℕ) → IsWord f.places f.slots w → m w ≡ x → Kept f m (set views id (told w x v))
  told_kept (Length p) x near now =
      let w₁ : View = noticed f m views id v k at (Length p) x in let w₂ : View = in_hand w₁ (hand_at (measured_by x) p v.hand) in
      and_then f m views id v at w₂ (told (Length p) x v)
      (and_then f m views id v at w₁ w₂ (notices f m views id v k at (Length p) x near now)
      (λ k' at'. hands_at f m (set views id w₁) id w₁ k' at' (measured_by x) p (λ q i l is. measures_by f m (set views id w₁) id w₁ k' at' q p i x now l is) v.hand refl))
      (λ k' at'. length_read f m (set views id w₂) id w₂ k' at' p x now)
  told_kept (Next p) x near now = and_then f m views id v at (noticed f m views id v k at (Next p) x) (told (Next p) x v) (notices f m views id v k at (Next p) x near now)
      (λ k' at'. after_read f m (set views id (noticed f m views id v k at (Next p) x)) id (noticed f m views id v k at (Next p) x) k' at' p x now)
  told_kept (Tail p) x near now = and_then f m views id v at (noticed f m views id v k at (Tail p) x) (told (Tail p) x v) (notices f m views id v k at (Tail p) x near now)
      (λ k' at'. ends_read f m (set views id (noticed f m views id v k at (Tail p) x)) id (noticed f m views id v k at (Tail p) x) k' at' p x now)
  told_kept (Number p i) x near now = and_then f m views id v at (noticed f m views id v k at (Number p i) x) (told (Number p i) x v) (notices f m views id v k at (Number p i) x near now)
      (λ k' at'. shown_read f m (set views id (noticed f m views id v k at (Number p i) x)) id (noticed f m views id v k at (Number p i) x) k' at' p i x now)
  told_kept (Observers p) x near now =
      let w₁ : View = noticed f m views id v k at (Observers p) x in let w₂ : View = in_hand w₁ (hand_at (leave_by x) p v.hand) in
      and_then f m views id v at w₂ (told (Observers p) x v)
      (and_then f m views id v at w₁ w₂ (notices f m views id v k at (Observers p) x near now)
      (λ k' at'. hands_at f m (set views id w₁) id w₁ k' at' (leave_by x) p (λ q i l is. leaves_by f m (set views id w₁) id w₁ k' at' q p i x now l is) v.hand refl))
      (λ k' at'. finds f m (set views id w₂) id w₂ k' at' p x (let l = near.0 in omega arith) now v.stage refl)
  told_kept Head x near now = notices f m views id v k at Head x near now
  told_kept Turn x near now = notices f m views id v k at Turn x near now
  told_kept Current x near now = notices f m views id v k at Current x near now
  told_kept First x near now = notices f m views id v k at First x near now
  told_kept (Start p) x near now = notices f m views id v k at (Start p) x near now
  told_kept (Done p) x near now = notices f m views id v k at (Done p) x near now
  told_kept (Segment p) x near now = notices f m views id v k at (Segment p) x near now
  told_kept (Item p i) x near now = notices f m views id v k at (Item p i) x near now

  begun_kept : (w : QueueWord) → Kept f m (set views id (begun w v))
  begun_kept w = cond_both (begins_call w && is_at_rest v.hand v.stage v.window) (record v { notes = blank; paid = false }) v (λ z. Kept f m (set views id z))
      (λ _. begins_kept f m views id v k at) (λ _. same_kept f m views id v at k)

module _ (f : Form) (m : Memory) (views : List View) (id : ℕ) (v : View) (k : Kept f m views) (at : get_elem? views id ≡ some v) where
  abbrev ghosts : Ghosts
  ghosts = k.g

  abbrev own : ViewOk f ghosts id v
  own = k.seats.each id v at

  -- a load of any word
  pub loaded_kept : (w : QueueWord) (x : ℕ) → IsWord f.places f.slots w → m w ≡ x → Kept f m (set views id (loaded w x v))
  loaded_kept w x near now = and_then f m views id v at (begun w v) (loaded w x v) (begun_kept f m views id v k at w)
      (λ k' at'. told_kept f m (set views id (begun w v)) id (begun w v) k' at' w x near now)

  -- What it tells.

  shaped : IsShape f → (place_count v ≡ f.places) × (slot_count v ≡ f.slots)
  shaped s = (
    (λ i. places_in (own.of_object i) (own.of_callers i)) ∙ sym s.places,
    ap slots_in own.of_object ∙ sym s.slots,
  )

  at_head : (x : ℕ) → m Head ≡ x → (h : Option ℕ) → HeadNote ghosts (IsWhole v) h → IfSome h (IsAbove v x)
  at_head x now None n = tt
  at_head x now (Some h) n = λ ne. let moved = head_moved f m views id v k at h n (λ e. ne (sym now ∙ e)) in (subst (λ z. h < z) now moved.0, moved.1)

  at_tail : (p x : ℕ) → p < f.places → m (Tail p) ≡ x → (o : Option OpenTail) → TailFact ghosts (IsWhole v) o → IfSome o (λ o. (t : ℕ) → x ≡ 2 * t → IsAbove v t o.position)
  at_tail p x near now None s = tt
  at_tail p x near now (Some o) s = λ t is ne. tail_moved f m views id v k at o p t s near (now ∙ is) ne

  tail_small : (p : ℕ) → p < f.places → m (Tail p) ≤ 2 * ghosts.put + 1
  tail_small p near = go (ghosts.home p) refl
    where
      go : (z : ℕ) → ghosts.home p ≡ z → m (Tail p) ≤ 2 * ghosts.put + 1
      go zero home = let w : m (Tail p) ≡ 1 = k.words.tails p near ∙ ap (tail_word ghosts.segs ghosts.last ghosts.put ghosts.shut) home in omega arith
      go (suc n) home =
          let w : m (Tail p) ≡ tail_word ghosts.segs ghosts.last ghosts.put ghosts.shut (suc n) = k.words.tails p near ∙ ap (tail_word ghosts.segs ghosts.last ghosts.put ghosts.shut) home in
          let there = (k.words.homes.there p n home).0 in ⊎_elim
          (λ (e : n ≡ ghosts.last). let w' = w ∙ ap (λ b. cond b (2 * ghosts.put + ghosts.shut) (2 * (ghosts.segs (suc n)).start + 1)) (eq-eqb n ghosts.last e) in let b = k.words.turns.bit in omega arith)
          (λ (ne : n ≢ ghosts.last). let w' = w ∙ ap (λ b. cond b (2 * ghosts.put + ghosts.shut) (2 * (ghosts.segs (suc n)).start + 1)) (ne_eqb n ghosts.last ne) in
          let r = rises ghosts.segs ghosts.low ghosts.last ghosts.taken ghosts.put k.words.chain (suc n) ghosts.last (omega arith) (le_refl _) in let e = k.words.chain.ends in omega arith)
          (cases_eq n ghosts.last)

  room_told : (x : ℕ) → m Head ≡ x → (o : Option OpenTail) → TailFact ghosts (IsWhole v) o → IfSome o (λ o. o.position ≤ x + room_in v.object)
  room_told x now None s = tt
  room_told x now (Some o) s = subst (λ z. o.position ≤ x + room_in z) (sym own.of_object) (let b = s.there.below in let w = k.words.counts.within in let h = k.words.counts.head_is in omega arith)

  head_told : (p x : ℕ) → p < f.places → m (Tail p) ≡ x → (h : Option ℕ) → HeadNote ghosts (IsWhole v) h → IfSome h (λ h. (t : ℕ) → x ≡ 2 * t → h ≤ t)
  head_told p x near now None n = tt
  head_told p x near now (Some h) n = λ t is. let e = (tail_even ghosts.segs ghosts.last ghosts.put ghosts.shut (ghosts.home p) t (sym (k.words.tails p near) ∙ (now ∙ is)) k.words.turns.bit).1 in let l = n.0 in let b = k.words.counts.behind in omega arith

  -- a slot of a place lies so many times the first length from 0 as its segment word says
  segment_before : (p x : ℕ) → m (Segment p) ≡ x → (q i a : ℕ) → q ≡ p → (n : ℕ) → Shows ghosts q i n → (ghosts.cells q i).0 ≡ a → x * first_len_in v.object ≤ a
  segment_before p x now q i a here n s cell =
      let number : x ≡ n = sym now ∙ (ap (λ z. m (Segment z)) (sym here) ∙ (k.words.places q n s.0 s.1).2) in
      let high : n * f.first_len ≤ (ghosts.segs n).start = numbers_high ghosts.segs ghosts.low ghosts.last ghosts.taken ghosts.put k.words.chain f.first_len (λ b l. (k.words.ranges.lengths b l).0) n (k.words.homes.there q n s.0).0 in
      let from : (ghosts.segs n).start ≤ (ghosts.cells q i).0 = (k.words.slots q n i s.0 s.1 s.2).begins in
      subst (λ (z : ℕ × ℕ). z.0 ≤ z.1) (λ j. ((sym number j) * first_len_in (sym own.of_object j), cell j)) (le_trans high from)

  -- of a position that is in hand, the segments before its own
  segment_told : (p x : ℕ) → m (Segment p) ≡ x → (h : Hand) → HandOk ghosts id (HasNumber v.held v.caller) v.caller h → IsFrom p (x * first_len_in v.object) h
  segment_told p x now Nothing o = tt
  segment_told p x now (Reserved a q i y) o = λ here. segment_before p x now q i a here o.1.0 o.1.1 (ap (λ (z : Cell). z.0) o.2)
  segment_told p x now (Stored a q i y) o = λ here. segment_before p x now q i a here o.1.0 o.1.1 (ap (λ (z : Cell). z.0) o.2)
  segment_told p x now (Taking a q i l) o = tt

  plain_stage : v.stage ≡ Plain → StageOk ghosts id (HasNumber v.held v.caller) v.caller Plain
  plain_stage plain = subst (StageOk ghosts id (HasNumber v.held v.caller) v.caller) plain own.stage

  shut_by : (s : Stage) → StageOk ghosts id (HasNumber v.held v.caller) v.caller s → has_closed s ≡ true → ghosts.shut ≡ 1
  shut_by Away y e = absurd (true≢false (sym e))
  shut_by Plain y e = absurd (true≢false (sym e))
  shut_by (Closed q a u) y e = y.1
  shut_by (Found q a u) y e = absurd (true≢false (sym e))
  shut_by (Preparing d q a n w) y e = absurd (true≢false (sym e))
  shut_by (Opened d q a) y e = absurd (true≢false (sym e))
  shut_by (Linked q a) y e = absurd (true≢false (sym e))
  shut_by (Observing q a b n p) y e = absurd (true≢false (sym e))

  -- the tail of the current place, under the turn while it is not closed
  open_told : (p x : ℕ) → p < f.places → m (Tail p) ≡ x → StageOk ghosts id (HasNumber v.held v.caller) v.caller Plain → (ghosts.segs ghosts.now).place ≡ p → x % 2 ≡ 0
  open_told p x near now st here =
      let there : (ghosts.segs ghosts.last).place ≡ p = ap (λ z. (ghosts.segs z).place) (sym st.3) ∙ here in
      let home : ghosts.home p ≡ suc ghosts.last = ap ghosts.home (sym there) ∙ k.words.homes.chain ghosts.last k.words.chain.inside (le_refl _) in
      let word : m (Tail p) ≡ 2 * ghosts.put + ghosts.shut = k.words.tails p near ∙ (ap (tail_word ghosts.segs ghosts.last ghosts.put ghosts.shut) home ∙ ap (λ b. cond b (2 * ghosts.put + ghosts.shut) (2 * (ghosts.segs (suc ghosts.last)).start + 1)) (eq-eqb ghosts.last ghosts.last refl)) in
      let shut = st.1 in let x_is : x ≡ 2 * ghosts.put = omega arith in omega arith

  -- a tail is closed, unless it is that of the last segment and that is open
  closed_told : (p x : ℕ) → p < f.places → m (Tail p) ≡ x → (((ghosts.segs ghosts.last).place ≡ p) × (ghosts.shut ≡ 0) → ⊥) → x % 2 ≡ 1
  closed_told p x near now never = ⊎_elim
      (λ (even : x % 2 ≡ 0). absurd (
      let e = tail_even ghosts.segs ghosts.last ghosts.put ghosts.shut (ghosts.home p) (x / 2) (sym (k.words.tails p near) ∙ (now ∙ (let z : x ≡ 2 * (x / 2) = omega arith in z))) k.words.turns.bit in
      never ((k.words.homes.there p ghosts.last e.0).1, e.2)))
      (λ (odd : x % 2 ≢ 0). omega arith)
      (cases_eq (x % 2) 0)

  -- the closed tail of the first place is above the ends that first was moved past
  beyond_told : (p e : ℕ) → p < f.places → m (Tail p) ≡ 2 * e + 1 → has_turn v.stage ≡ true → v.notes.scan.first ≡ Some p → IsBeside v p → IfSome v.notes.scan.moved (λ a. a < e)
  beyond_told p e near now turn first beside =
      let mine = turn_mine f m views id v k at v.stage own.stage turn in let s = own.notes.scan mine in
      let there : (ghosts.segs ghosts.low).place ≡ p = subst (λ z. IfSome z (λ q. (ghosts.segs ghosts.low).place ≡ q)) first s.first in
      let two = k.words.chain.some_slot ghosts.low k.words.chain.inside in
      ⊎_elim
      (λ (z : (ghosts.low ≡ ghosts.last) × (ghosts.shut ≡ 1) × (end_of ghosts.segs ghosts.last ghosts.put ghosts.low ≡ e)). absurd (⊎_elim
      (λ (plain : v.stage ≡ Plain). let a : ghosts.shut ≡ 0 = (plain_stage plain).1 in let b = z.1 in omega arith)
      (λ (c : (c : ℕ) × (v.notes.scan.current ≡ Some c) × (c ≢ p)).
      let now_at = (subst (λ z. IfSome z (λ q. (ghosts.now ≤ ghosts.last) × ((ghosts.segs ghosts.now).place ≡ q))) c.1 s.current).1 in
      c.2 (sym now_at ∙ (ap (λ y. (ghosts.segs y).place) (shut_now f m views id v k at v.stage own.stage mine z.1 ∙ sym z.0) ∙ there)))
      beside))
      (λ (z : (ghosts.low < ghosts.last) × ((ghosts.segs (suc ghosts.low)).start ≡ e) × (end_of ghosts.segs ghosts.last ghosts.put ghosts.low ≡ e)).
      if_some (λ a. a ≤ (ghosts.segs ghosts.low).start) (λ a. a < e) (λ a l. let w = k.words.chain.follows ghosts.low z.0 in let y = z.1 in omega arith) v.notes.scan.moved s.moved)
      (closed_end f m views id v k at ghosts.low p e (le_refl _) k.words.chain.inside there near now)

  pub reads_told : IsShape f → (w : QueueWord) (x : ℕ) → IsWord f.places f.slots w → m w ≡ x → Told w x v
  reads_told s Head x near now = (at_head x now v.notes.head own.notes.head, if_some (λ h. h < ghosts.taken) (λ h. h < x) (λ h l. let e = k.words.counts.head_is in omega arith) v.notes.gone own.notes.gone, (let b = (few_put f m ghosts k.words).1 in let e = k.words.counts.head_is in omega arith), room_told x now v.notes.tail own.notes.tail)
  reads_told s Turn x near now = tt
  reads_told s Current x near now = subst (λ z. x < z) (sym (shaped s).0) (subst (λ z. z < f.places) (sym k.words.links.current_is ∙ now) (k.words.ranges.placed ghosts.now (let o = k.words.links.order in let a = o.1 in let b = o.2 in omega arith)))
  reads_told s First x near now = subst (λ z. x < z) (sym (shaped s).0) (subst (λ z. z < f.places) (sym k.words.links.first_is ∙ now) (k.words.ranges.placed ghosts.low k.words.chain.inside))
  reads_told s (Tail p) x near now = let l : p < f.places = (let z = near.0 in omega arith) in record {
    above = at_tail p x l now v.notes.tail own.notes.tail;
    small = let a = tail_small p l in let b = (few_put f m ghosts k.words).0 in omega arith;
    head = head_told p x l now v.notes.head own.notes.head;
    current = λ plain e. open_told p x l now (plain_stage plain) (subst (λ c. IfSome c (λ q. (ghosts.now ≤ ghosts.last) × ((ghosts.segs ghosts.now).place ≡ q))) e (own.notes.scan (plain_stage plain).0.0).current).1;
    other = λ c plain e ne. closed_told p x l now (λ here. ne (sym (subst (λ c. IfSome c (λ q. (ghosts.now ≤ ghosts.last) × ((ghosts.segs ghosts.now).place ≡ q))) e (own.notes.scan (plain_stage plain).0.0).current).1 ∙ (ap (λ z. (ghosts.segs z).place) (plain_stage plain).3 ∙ here.0)));
    beyond = λ e turn first beside is. beyond_told p e l (now ∙ is) turn first beside;
    closed = λ b. closed_told p x l now (λ here. let z : 0 ≡ 1 = sym here.1 ∙ shut_by v.stage own.stage b in omega arith);
  }
  reads_told s (Start p) x near now = tt
  reads_told s (Length p) x near now = let l = k.words.sizes p (let l = near.0 in omega arith) in let two = s.first_len.0 in let a = l.0 in (subst (λ z. IsSegmentLength (first_len_in z) x) (sym own.of_object) (subst (IsSegmentLength f.first_len) now l), omega arith, subst (λ z. x ≤ z) (sym (shaped s).1) (let b = l.1 in let c = s.slots in omega arith))
  reads_told s (Observers p) x near now = tt
  reads_told s (Done p) x near now = tt
  reads_told s (Next p) x near now = subst (λ z. x < z) (sym (shaped s).0) (subst (λ z. z < f.places) now (k.words.nexts p (let l = near.0 in omega arith)))
  reads_told s (Segment p) x near now = segment_told p x now v.hand own.hand
  reads_told s (Number p i) x near now = tt
  reads_told s (Item p i) x near now = tt

  -- the pass sees the whole history
  all_seen_kept : Kept f m (set views id (record v { seen = ghosts.log; joint = None }))
  all_seen_kept = kept_after f m m views k id v (record v { seen = ghosts.log; joint = None }) ghosts at k.words record {
    rely = λ j u other there x. record {
      grows = entry_grows ghosts ghosts.log ghosts.made ghosts.paid;
      holds = λ h. h;
      still = λ a. (refl, refl, refl);
      hand_place = λ a n p e s. (e, s);
      window_place = λ a n p e s. (e, s, refl);
      held = λ a b e. refl;
      given = λ a b e. e;
      turned = λ e. entry_turn ghosts ghosts.log ghosts.made ghosts.paid;
      turns = λ e. e;
    };
    mine = record {
      of_object = own.of_object;
      of_callers = own.of_callers;
      holds = record { behind = sees_same v.held ghosts.log; owns = own.holds.owns; agrees = own.holds.agrees; wide = own.holds.wide };
      joint = tt;
      notes = own.notes;
      hand = own.hand;
      ties = own.ties;
      stage = own.stage;
      window = own.window;
      owned = own.owned;
    };
    paid_by = refl;
    untold_by = λ a. refl;
    watch_by = λ n. refl;
    seated = λ a b j other e. e;
    turned = λ j other e. e;
    seen = ((λ e. refl), inl refl);
  }

  in_flight_at : (p i x : ℕ) → m (Number p i) ≡ x → v.hand ≡ Nothing → (h : Option ℕ) → v.notes.head ≡ h → (is_front_slot (has_turn v.stage) p i h v.notes.scan && is_free_by h x) ≡ true → IfSome h (λ y. IsInFlight v y ghosts.log)
  in_flight_at p i x now idle None noted e = tt
  in_flight_at p i x now idle (Some y) noted e =
      let a = and_parts (is_front_slot (has_turn v.stage) p i (Some y) v.notes.scan) (eqb x (2 * y)) e in
      let turn = turn_mine f m views id v k at v.stage own.stage (and_parts (has_turn v.stage) (is_read v.notes.scan.inside y && (is_read v.notes.scan.first p && is_slot_of p i y v.notes.scan.length)) a.0).0 in
      let s = front_slot f m views id v k at turn v.notes.head own.notes.head v.notes.scan (own.notes.scan turn) p i y (has_turn v.stage) a.0 in
      let head : HeadNote ghosts (IsWhole v) (Some y) = subst (HeadNote ghosts (IsWhole v)) noted own.notes.head in
      let c = in_flight f m views id v k at p i ghosts.low y idle (s.0, s.1, s.2) (now ∙ eqb-true x (2 * y) a.1) s.4 in record {
        putter = c.0;
        enqueued = ap (λ z. slice_get z y) k.words.counts.stands.2 ∙ got ghosts.putters y c.0 c.1;
        first = taken_counted f m views id v k at ∙ (let least = c.2 in let most = head.0 in let z : ghosts.taken ≡ y = omega arith in z);
        not_held = c.3.not_held;
        not_whole = c.3.not_whole;
      }

module _ (f : Form) (m : Memory) (views : List View) (id : ℕ) (v : View) (k : Kept f m views) (at : get_elem? views id ≡ some v) where
  after : View → List View
  after w = set views id w

  here : (w : View) → get_elem? (set views id w) id ≡ some w
  here w = set_here views id w (at_inside views id v at)

  -- a position in flight at the head
  flies : (w : QueueWord) (x : ℕ) → IsWord f.places f.slots w → m w ≡ x → sees_in_flight w x v ≡ true → (w' : View) × Kept f m (set views id w') × Sees true (loaded w x v) w'
  flies (Number p i) x near now e =
      let k₁ = loaded_kept f m views id v k at (Number p i) x near now in let v₁ : View = loaded (Number p i) x v in
      let a = and_parts (is_idle v.hand) (is_front_slot (has_turn v.stage) p i v.notes.head v.notes.scan && is_free_by v.notes.head x) e in
      let log : List EntryMark = k₁.g.log in (
        record v₁ { seen = log; joint = None },
        subst (Kept f m) (set_twice views id v₁ (record v₁ { seen = log; joint = None })) (all_seen_kept f m (set views id v₁) id v₁ k₁ (here v₁)),
        (
          log,
          (k₁.seats.each id v₁ (here v₁)).holds.behind,
          whole_lawful f m (set views id v₁) id v₁ k₁ (here v₁),
          in_flight_at f m (set views id v₁) id v₁ k₁ (here v₁) p i x now (idle v.hand a.0) v.notes.head refl a.1,
          refl,
        ),
      )
    where
      idle : (h : Hand) → is_idle h ≡ true → h ≡ Nothing
      idle Nothing y = refl
      idle (Reserved a b c d) y = absurd (true≢false (sym y))
      idle (Stored a b c d) y = absurd (true≢false (sym y))
      idle (Taking a b c d) y = absurd (true≢false (sym y))
  flies Head x near now e = absurd (true≢false (sym e))
  flies Turn x near now e = absurd (true≢false (sym e))
  flies Current x near now e = absurd (true≢false (sym e))
  flies First x near now e = absurd (true≢false (sym e))
  flies (Tail p) x near now e = absurd (true≢false (sym e))
  flies (Start p) x near now e = absurd (true≢false (sym e))
  flies (Length p) x near now e = absurd (true≢false (sym e))
  flies (Observers p) x near now e = absurd (true≢false (sym e))
  flies (Done p) x near now e = absurd (true≢false (sym e))
  flies (Next p) x near now e = absurd (true≢false (sym e))
  flies (Segment p) x near now e = absurd (true≢false (sym e))
  flies (Item p i) x near now e = absurd (true≢false (sym e))

  sees : (w : QueueWord) (x : ℕ) → IsWord f.places f.slots w → m w ≡ x → (b : Bool) → sees_in_flight w x v ≡ b → (w' : View) × Kept f m (set views id w') × Sees b (loaded w x v) w'
  sees w x near now true e = flies w x near now e
  sees w x near now false e = (loaded w x v, loaded_kept f m views id v k at w x near now, refl)

  -- all that a load tells
  pub reads : IsShape f → (w : QueueWord) (x : ℕ) → IsWord f.places f.slots w → m w ≡ x → (w' : View) × Kept f m (set views id w') × Reads w x v w'
  reads s w x near now = let a = sees w x near now (sees_in_flight w x v) refl in (
    a.0,
    a.1,
    record {
      told = reads_told f m (set views id (begun w v)) id (begun w v) (begun_kept f m views id v k at w) (here (begun w v)) s w x near now;
      lawful = seen_lawful f m views id v k at;
      window = window_told v.window refl;
      sees = a.2;
    },
  )
    where
      window_told : (o : Option Window) → v.window ≡ o → IfSome o (TellsWindow w x v)
      window_told None is = tt
      window_told (Some o) is = tells_window f m views id v k at w x now o is
