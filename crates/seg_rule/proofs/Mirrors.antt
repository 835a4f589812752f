-- The fields of a pass follow its loads.
use Rattle.std.proofs.Common.{◌≡◌, ℕ, ◌+◌, ◌*◌, ◌/◌, ◌%◌, ◌^◌, ◌<◌, ◌≤◌, eqb, cond, Bool, true, false, true≢false, not, ◌&&◌, List, sym, refl, ap, ◌∙◌, subst, arith}
use Rattle.std.proofs.lemmas.Bool.{cond_both, and_parts, eqb-true}
use Rattle.std.specs.Prelude.{Option, Some, None, IfSome}
use Rattle.ho_model.specs.declared.objects.Object.{Object}
use Rattle.ho_model.specs.declared.objects.Object.TheVariants.{Queue}
use Rattle.seg_rule.specs.declared.word.QueueWord.{QueueWord}
use Rattle.seg_rule.specs.declared.word.QueueWord.TheVariants.{Head, Turn, Current, First, Tail, Start, Length, Observers, Done, Next, Segment, Number, Item}
use Rattle.seg_rule.specs.declared.pass.Here.{Here}
use Rattle.seg_rule.specs.declared.view.View.{View}
use Rattle.seg_rule.specs.declared.view.Notes.{Notes}
use Rattle.seg_rule.specs.declared.view.OpenTail.{OpenTail}
use Rattle.seg_rule.specs.declared.view.Front.{Front}
use Rattle.seg_rule.specs.declared.view.Candidate.{Candidate}
use Rattle.seg_rule.specs.declared.view.Window.{Window}
use Rattle.seg_rule.specs.declared.view.Obstacle.{Obstacle}
use Rattle.seg_rule.specs.declared.view.Leave.{Leave}
use Rattle.seg_rule.specs.declared.view.Leave.TheVariants.{Unread, Granted, Measured, Refused, Released}
use Rattle.seg_rule.specs.declared.view.Hand.{Hand}
use Rattle.seg_rule.specs.declared.view.Hand.TheVariants.{Nothing, Reserved, Stored, Taking}
use Rattle.seg_rule.specs.declared.view.Stage.{Stage}
use Rattle.seg_rule.specs.declared.view.Stage.TheVariants.{Away, Plain, Closed, Found, Preparing, Opened, Linked, Observing}
use Rattle.seg_rule.specs.Words.{IsWord}
use Rattle.seg_rule.specs.Steps.{blank}
use Rattle.seg_rule.specs.Loads.{has_turn, tail_note, length_note, segment_note, slot_note, number_tail, number_front, item_note, noted, hand_at, leave_by, measured_by, is_spent_at, found_at, is_at_rest, begins_call, begun, told, loaded}
use Rattle.seg_rule.specs.Tells.{Told, Sees, places_in, slots_in, place_count, slot_count, sees_in_flight}
use Rattle.seg_rule.specs.Plays.{Reads}
use Rattle.atomic_table.specs.Table.{Me}
use Rattle.passes.specs.Numbers.{NumbersView}
use Rattle.seg_rule.specs.declared.form.Form.{Form}
use Rattle.seg_rule.specs.Rule.{IsShape, object_of}
use Rattle.seg_rule.specs.Passes.{LengthIs, HandIs, StageIs, NotesAre, IsHere, IsPass}
use Rattle.seg_rule.specs.Looks.{here_after, IsUnmeasured, MayLook}

slots_few : (o : Object) → slots_in o ≤ 1024
slots_few (Queue room first_len) = omega arith
slots_few o = omega arith

abbrev Tails : Here → OpenTail → Type 0
Tails h t = (t.position < 2 ^ 62) × (t.fits ≡ true → IfSome t.length (λ n. t.position % n ≡ h.tail_slot))

abbrev Fronts : Here → Front → Type 0
Fronts h y = (y.place ≡ h.place) × (y.slot ≡ h.slot) × (y.position < 2 ^ 62)

module _ (h : Here) where
  tail_is : (p x : ℕ) → x < 2 ^ 60 → (old : Option OpenTail) → IfSome old (Tails h) → IfSome (tail_note p x old) (Tails h)
  tail_is p x small old was = cond_both (eqb (x % 2) 0) (Some (record { place = p; position = x / 2; length = None; number = None; fits = false; full = false })) old (λ o. IfSome o (Tails h))
      (λ _. (omega arith, λ z. absurd (true≢false (sym z)))) (λ _. was)

  length_is : (p x : ℕ) (o : Option OpenTail) → IfSome o (Tails h) → IfSome (length_note p x o) (Tails h)
  length_is p x None k = tt
  length_is p x (Some o) k = cond_both (eqb o.place p) (Some (record o { length = Some x; fits = false; full = false })) (Some o) (λ o. IfSome o (Tails h)) (λ _. (k.0, λ z. absurd (true≢false (sym z)))) (λ _. k)

  segment_is : (p x : ℕ) (o : Option OpenTail) → IfSome o (Tails h) → IfSome (segment_note p x o) (Tails h)
  segment_is p x None k = tt
  segment_is p x (Some o) k = cond_both (eqb o.place p) (Some (record o { number = Some x })) (Some o) (λ o. IfSome o (Tails h)) (λ _. k) (λ _. k)

  item_is : (p i x : ℕ) (o : Option Front) → IfSome o (Fronts h) → IfSome (item_note p i x o) (Fronts h)
  item_is p i x None k = tt
  item_is p i x (Some o) k = cond_both (eqb o.place p && eqb o.slot i) (Some (record o { item = Some x })) (Some o) (λ o. IfSome o (Fronts h)) (λ _. k) (λ _. k)

-- the last number that was read is that of the slot i of the place p
module _ (h : Here) (p i x : ℕ) where
  abbrev now : Here
  now = record h { place = p; slot = i; tail_slot = i }

  slot_is : (o : OpenTail) → o.position < 2 ^ 62 → (l : Option ℕ) → o.length ≡ l → IfSome (slot_note p i x o l) (Tails now)
  slot_is o small None e = (small, λ z. absurd (true≢false (sym z)))
  slot_is o small (Some n) e = cond_both (eqb o.place p && eqb (o.position % n) i) (Some (record o { fits = eqb x (2 * o.position); full = not (eqb x (2 * o.position)) })) (Some (record o { fits = false; full = false })) (λ o. IfSome o (Tails now))
      (λ b. let a = and_parts (eqb o.place p) (eqb (o.position % n) i) b in
      (small, λ z. subst (λ r. IfSome r (λ n. o.position % n ≡ i)) (sym e) (eqb-true (o.position % n) i a.1)))
      (λ b. (small, λ z. absurd (true≢false (sym z))))

  number_is : (o : Option OpenTail) → IfSome o (Tails h) → IfSome (number_tail p i x o) (Tails now)
  number_is None k = tt
  number_is (Some o) k = slot_is o k.0 o.length refl

  front_is : (y : Option ℕ) → IfSome y (λ z. z < 2 ^ 62) → IfSome (number_front y p i x) (Fronts now)
  front_is None k = tt
  front_is (Some y) k = cond_both (eqb x (2 * y + 1)) (Some (record { position = y; place = p; slot = i; item = None })) None (λ o. IfSome o (Fronts now)) (λ _. (refl, refl, k)) (λ _. tt)

-- the notes of a load
notes_are : (v : View) (h : Here) (st : Stage) (w : QueueWord) (x : ℕ) → Told w x v → NotesAre v.notes h → NotesAre (noted st w x v.notes) (here_after w x h)
notes_are v h st Head x t k = record { head = (let l = t.2 in omega arith); tail = k.tail; front = k.front }
notes_are v h st Turn x t k = k
notes_are v h st Current x t k = record { head = k.head; tail = k.tail; front = k.front }
notes_are v h st First x t k = record { head = k.head; tail = k.tail; front = k.front }
notes_are v h st (Tail p) x t k = record { head = k.head; tail = tail_is h p x t.small v.notes.tail k.tail; front = k.front }
notes_are v h st (Start p) x t k = record { head = k.head; tail = k.tail; front = k.front }
notes_are v h st (Length p) x t k = record { head = k.head; tail = length_is h p x v.notes.tail k.tail; front = k.front }
notes_are v h st (Observers p) x t k = record { head = k.head; tail = k.tail; front = k.front }
notes_are v h st (Done p) x t k = record { head = k.head; tail = k.tail; front = k.front }
notes_are v h st (Next p) x t k = record { head = k.head; tail = k.tail; front = k.front }
notes_are v h st (Segment p) x t k = record { head = k.head; tail = segment_is h p x v.notes.tail k.tail; front = k.front }
notes_are v h st (Number p i) x t k = record { head = k.head; tail = number_is h p i x v.notes.tail k.tail; front = front_is h p i x v.notes.head k.head }
notes_are v h st (Item p i) x t k = record { head = k.head; tail = k.tail; front = item_is h p i x v.notes.front k.front }

-- the leave of a take
leave_is : (h : Here) (x : ℕ) (l : Leave) → LengthIs l h → LengthIs (leave_by x l) h
leave_is h x Unread k = cond_both (eqb x 0) Granted Refused (λ l. LengthIs l h) (λ _. tt) (λ _. tt)
leave_is h x Granted k = k
leave_is h x (Measured n) k = k
leave_is h x Refused k = k
leave_is h x Released k = k

observers_are : (h : Here) (q x : ℕ) (w : Hand) → HandIs w h → HandIs (hand_at (leave_by x) q w) h
observers_are h q x Nothing k = k
observers_are h q x (Reserved a b c d) k = k
observers_are h q x (Stored a b c d) k = k
observers_are h q x (Taking a b c l) k = cond_both (eqb b q) (Taking a b c (leave_by x l)) (Taking a b c l) (λ w. HandIs w h) (λ _. (k.0, k.1, k.2, leave_is h x l k.3)) (λ _. k)

-- a length that is read for a take
measured_is : (h : Here) (x : ℕ) (a b c : ℕ) (l : Leave) → IsUnmeasured (Taking a b c l) → LengthIs (measured_by x l) (record h { length = x }) × LengthIs l (record h { length = x })
measured_is h x a b c Unread k = (tt, tt)
measured_is h x a b c Granted k = (refl, tt)
measured_is h x a b c (Measured n) k = absurd k
measured_is h x a b c Refused k = (tt, tt)
measured_is h x a b c Released k = (tt, tt)

lengths_are : (h : Here) (q x : ℕ) (w : Hand) → IsUnmeasured w → HandIs w h → HandIs (hand_at (measured_by x) q w) (record h { length = x })
lengths_are h q x Nothing u k = tt
lengths_are h q x (Reserved a b c d) u k = k
lengths_are h q x (Stored a b c d) u k = k
lengths_are h q x (Taking a b c l) u k = let m = measured_is h x a b c l u in
    cond_both (eqb b q) (Taking a b c (measured_by x l)) (Taking a b c l) (λ w. HandIs w (record h { length = x })) (λ _. (k.0, k.1, k.2, m.0)) (λ _. (k.0, k.1, k.2, m.1))

-- a place that is found free
found_is : (h : Here) (p x : ℕ) (c : Option Candidate) (s : Stage) → StageIs s h → has_turn s ≡ h.turn → StageIs (found_at p x c s) h × (has_turn (found_at p x c s) ≡ h.turn)
found_is h p x c Away k t = (k, t)
found_is h p x c Plain k t = (k, t)
found_is h p x c (Closed q a false) k t = (k, t)
found_is h p x c (Closed q a true) k t = cond_both (eqb x 0 && is_spent_at p c) (Found q a p) (Closed q a true) (λ s. StageIs s h × (has_turn s ≡ h.turn)) (λ _. (k, t)) (λ _. (k, t))
found_is h p x c (Found q a r) k t = (k, t)
found_is h p x c (Preparing d q a n w) k t = (k, t)
found_is h p x c (Opened d q a) k t = (k, t)
found_is h p x c (Linked q a) k t = (k, t)
found_is h p x c (Observing q a b n r) k t = (k, t)

-- what is said of the tail that was closed, and of the position in hand, by other fields
stage_on : (h h' : Here) → h.closed_place ≡ h'.closed_place → h.closed_at ≡ h'.closed_at → h.first_slot ≡ h'.first_slot → (s : Stage) → StageIs s h → StageIs s h'
stage_on h h' a b c' Away k = tt
stage_on h h' a b c' Plain k = tt
stage_on h h' a b c' (Closed q t u) k = (k.0 ∙ a, k.1 ∙ b)
stage_on h h' a b c' (Found q t p) k = (k.0 ∙ a, k.1 ∙ b)
stage_on h h' a b c' (Preparing d q t n w) k = (k.0 ∙ b, k.1 ∙ c')
stage_on h h' a b c' (Opened d q t) k = tt
stage_on h h' a b c' (Linked q t) k = tt
stage_on h h' a b c' (Observing q t c n p) k = (k.0 ∙ a, k.1 ∙ b)

paid_hand : (h : Here) (b : Bool) (w : Hand) → HandIs w h → HandIs w (record h { paid = b })
paid_hand h b Nothing k = k
paid_hand h b (Reserved p q i x) k = k
paid_hand h b (Stored p q i x) k = k
paid_hand h b (Taking p q i Unread) k = k
paid_hand h b (Taking p q i Granted) k = k
paid_hand h b (Taking p q i (Measured n)) k = k
paid_hand h b (Taking p q i Refused) k = k
paid_hand h b (Taking p q i Released) k = k

module _ (v : View) (h : Here) (k : IsHere v h) where
  -- a load that changes notes, and maybe what the leave or the stage says
  noticed_here : (met : List Obstacle) (o : Notes) (hand : Hand) (stage : Stage) (window : Option Window) → has_turn stage ≡ h.turn → HandIs hand h → StageIs stage h → NotesAre o h → IsHere (record v { met = met; notes = o; hand = hand; stage = stage; window = window }) h
  noticed_here met o hand stage window turn in_hand at_stage notes = record {
    paid = k.paid;
    turn = turn;
    place = k.place;
    slot = k.slot;
    tail_slot = k.tail_slot;
    first_slot = k.first_slot;
    closed_place = k.closed_place;
    position = k.position;
    closed_at = k.closed_at;
    length = k.length;
    hand = in_hand;
    stage = at_stage;
    notes = notes;
  }

  told_here : (w : QueueWord) (x : ℕ) → Told w x v → MayLook w v → IsWord (place_count v) (slot_count v) w → (begins_call w ≡ true → here_after w x h ≡ h) → IsHere (told w x v) (here_after w x h)
  told_here Head x t may near same = noticed_here (told Head x v).met (noted v.stage Head x v.notes) v.hand v.stage v.window k.turn k.hand k.stage (notes_are v h v.stage Head x t k.notes)
  told_here Turn x t may near same = noticed_here (told Turn x v).met (noted v.stage Turn x v.notes) v.hand v.stage v.window k.turn k.hand k.stage (notes_are v h v.stage Turn x t k.notes)
  told_here Current x t may near same = subst (IsHere (told Current x v)) (sym (same refl)) (noticed_here (told Current x v).met (noted v.stage Current x v.notes) v.hand v.stage v.window k.turn k.hand k.stage (subst (NotesAre (noted v.stage Current x v.notes)) (same refl) (notes_are v h v.stage Current x t k.notes)))
  told_here First x t may near same = subst (IsHere (told First x v)) (sym (same refl)) (noticed_here (told First x v).met (noted v.stage First x v.notes) v.hand v.stage v.window k.turn k.hand k.stage (subst (NotesAre (noted v.stage First x v.notes)) (same refl) (notes_are v h v.stage First x t k.notes)))
  told_here (Tail p) x t may near same = noticed_here (told (Tail p) x v).met (noted v.stage (Tail p) x v.notes) v.hand v.stage (told (Tail p) x v).window k.turn k.hand k.stage (notes_are v h v.stage (Tail p) x t k.notes)
  told_here (Start p) x t may near same = noticed_here (told (Start p) x v).met (noted v.stage (Start p) x v.notes) v.hand v.stage v.window k.turn k.hand k.stage (notes_are v h v.stage (Start p) x t k.notes)
  told_here (Length p) x t may near same = record {
    paid = k.paid;
    turn = k.turn;
    place = k.place;
    slot = k.slot;
    tail_slot = k.tail_slot;
    first_slot = k.first_slot;
    closed_place = k.closed_place;
    position = k.position;
    closed_at = k.closed_at;
    length = let few = slots_few v.object in let l = t.2 in omega arith;
    hand = lengths_are h p x v.hand may k.hand;
    stage = stage_on h (record h { length = x }) refl refl refl v.stage k.stage;
    notes = notes_are v h v.stage (Length p) x t k.notes;
  }
  told_here (Observers p) x t may near same = let f = found_is h p x v.notes.scan.candidate v.stage k.stage k.turn in
      noticed_here (told (Observers p) x v).met (noted v.stage (Observers p) x v.notes) (hand_at (leave_by x) p v.hand) (found_at p x v.notes.scan.candidate v.stage) v.window f.1 (observers_are h p x v.hand k.hand) f.0 (notes_are v h v.stage (Observers p) x t k.notes)
  told_here (Done p) x t may near same = noticed_here (told (Done p) x v).met (noted v.stage (Done p) x v.notes) v.hand v.stage v.window k.turn k.hand k.stage (notes_are v h v.stage (Done p) x t k.notes)
  told_here (Next p) x t may near same = noticed_here (told (Next p) x v).met (noted v.stage (Next p) x v.notes) v.hand v.stage (told (Next p) x v).window k.turn k.hand k.stage (notes_are v h v.stage (Next p) x t k.notes)
  told_here (Segment p) x t may near same = noticed_here (told (Segment p) x v).met (noted v.stage (Segment p) x v.notes) v.hand v.stage v.window k.turn k.hand k.stage (notes_are v h v.stage (Segment p) x t k.notes)
  told_here (Number p i) x t may near same = record {
    paid = k.paid;
    turn = k.turn;
    place = let l = near.0 in omega arith;
    slot = let l = near.1 in omega arith;
    tail_slot = let l = near.1 in omega arith;
    first_slot = k.first_slot;
    closed_place = k.closed_place;
    position = k.position;
    closed_at = k.closed_at;
    length = k.length;
    hand = subst (λ w. HandIs w (record h { place = p; slot = i; tail_slot = i })) (sym may) tt;
    stage = stage_on h (record h { place = p; slot = i; tail_slot = i }) refl refl refl v.stage k.stage;
    notes = notes_are v h v.stage (Number p i) x t k.notes;
  }
  told_here (Item p i) x t may near same = noticed_here (told (Item p i) x v).met (noted v.stage (Item p i) x v.notes) v.hand v.stage v.window k.turn k.hand k.stage (notes_are v h v.stage (Item p i) x t k.notes)

at_rest_away : (a : Hand) (s : Stage) (w : Option Window) → is_at_rest a s w ≡ true → s ≡ Away
at_rest_away Nothing Away None e = refl
at_rest_away Nothing Away (Some w) e = absurd (true≢false (sym e))
at_rest_away Nothing Plain w e = absurd (true≢false (sym e))
at_rest_away Nothing (Closed q t u) w e = absurd (true≢false (sym e))
at_rest_away Nothing (Found q t p) w e = absurd (true≢false (sym e))
at_rest_away Nothing (Preparing d q t n c) w e = absurd (true≢false (sym e))
at_rest_away Nothing (Opened d q t) w e = absurd (true≢false (sym e))
at_rest_away Nothing (Linked q t) w e = absurd (true≢false (sym e))
at_rest_away Nothing (Observing q t b n p) w e = absurd (true≢false (sym e))
at_rest_away (Reserved p q i x) s w e = absurd (true≢false (sym e))
at_rest_away (Stored p q i x) s w e = absurd (true≢false (sym e))
at_rest_away (Taking p q i l) s w e = absurd (true≢false (sym e))

turn_by : (s : Stage) → is_at_rest Nothing s None ≡ false → has_turn s ≡ true
turn_by Away e = absurd (true≢false e)
turn_by Plain e = refl
turn_by (Closed q t u) e = refl
turn_by (Found q t p) e = refl
turn_by (Preparing d q t n c) e = refl
turn_by (Opened d q t) e = refl
turn_by (Linked q t) e = refl
turn_by (Observing q t b n p) e = refl

module _ (v : View) (h : Here) (k : IsHere v h) where
  with_paid : (u : View) (b : Bool) → u ≡ record v { notes = u.notes; paid = b } → NotesAre u.notes h → IsHere u (record h { paid = b })
  with_paid u b e notes = subst (λ z. IsHere z (record h { paid = b })) (sym e) (record {
    paid = refl;
    turn = k.turn;
    place = k.place;
    slot = k.slot;
    tail_slot = k.tail_slot;
    first_slot = k.first_slot;
    closed_place = k.closed_place;
    position = k.position;
    closed_at = k.closed_at;
    length = k.length;
    hand = paid_hand h b v.hand k.hand;
    stage = stage_on h (record h { paid = b }) refl refl refl v.stage k.stage;
    notes = record { head = notes.head; tail = notes.tail; front = notes.front };
  })

  abbrev paid_now : Bool
  paid_now = h.turn && h.paid

  -- the load that begins a call, or one under the turn
  begun_here : v.hand ≡ Nothing → v.window ≡ None → IsHere (cond (is_at_rest v.hand v.stage v.window) (record v { notes = blank; paid = false }) v) (record h { paid = paid_now })
  begun_here idle shut = cond_both (is_at_rest v.hand v.stage v.window) (record v { notes = blank; paid = false }) v (λ u. IsHere u (record h { paid = paid_now }))
      (λ e. let away = at_rest_away v.hand v.stage v.window e in let no_turn : h.turn ≡ false = sym k.turn ∙ ap has_turn away in
      subst (λ b. IsHere (record v { notes = blank; paid = false }) (record h { paid = b && h.paid })) (sym no_turn) (with_paid (record v { notes = blank; paid = false }) false refl (record { head = tt; tail = tt; front = tt })))
      (λ e. let mine : h.turn ≡ true = sym k.turn ∙ turn_by v.stage (sym (λ i. is_at_rest (idle i) v.stage (shut i)) ∙ e) in
      subst (λ b. IsHere v (record h { paid = b && h.paid })) (sym mine) (subst (λ b. IsHere v (record h { paid = b })) k.paid (with_paid v v.paid refl k.notes)))

module _ (v : View) (h : Here) (k : IsHere v h) where
  -- a load of any word
  loaded_here : (w : QueueWord) (x : ℕ) → Told w x (begun w v) → MayLook w v → IsWord (place_count v) (slot_count v) w → IsHere (loaded w x v) (here_after w x h)
  loaded_here Current x t may near =
      let u : View = begun Current v in let j : Here = here_after Current x h in let b = begun_here v h k may.0 may.1 in
      noticed_here u j b (told Current x u).met (noted u.stage Current x u.notes) u.hand u.stage u.window b.turn b.hand b.stage (record { head = b.notes.head; tail = b.notes.tail; front = b.notes.front })
  loaded_here First x t may near =
      let u : View = begun First v in let j : Here = here_after First x h in let b = begun_here v h k may.0 may.1 in
      noticed_here u j b (told First x u).met (noted u.stage First x u.notes) u.hand u.stage u.window b.turn b.hand b.stage (record { head = b.notes.head; tail = b.notes.tail; front = b.notes.front })
  loaded_here Head x t may near = told_here v h k Head x t may near (λ e. refl)
  loaded_here Turn x t may near = told_here v h k Turn x t may near (λ e. refl)
  loaded_here (Tail p) x t may near = told_here v h k (Tail p) x t may near (λ e. refl)
  loaded_here (Start p) x t may near = told_here v h k (Start p) x t may near (λ e. refl)
  loaded_here (Length p) x t may near = told_here v h k (Length p) x t may near (λ e. absurd (true≢false (sym e)))
  loaded_here (Observers p) x t may near = told_here v h k (Observers p) x t may near (λ e. refl)
  loaded_here (Done p) x t may near = told_here v h k (Done p) x t may near (λ e. refl)
  loaded_here (Next p) x t may near = told_here v h k (Next p) x t may near (λ e. refl)
  loaded_here (Segment p) x t may near = told_here v h k (Segment p) x t may near (λ e. refl)
  loaded_here (Number p i) x t may near = told_here v h k (Number p i) x t may near (λ e. absurd (true≢false (sym e)))
  loaded_here (Item p i) x t may near = told_here v h k (Item p i) x t may near (λ e. refl)

  seen_here : (b : Bool) (u u' : View) (j : Here) → Sees b u u' → IsHere u j → IsHere u' j
  seen_here true u u' j s y = subst (λ z. IsHere z j) (sym s.4) (record { paid = y.paid; turn = y.turn; place = y.place; slot = y.slot; tail_slot = y.tail_slot; first_slot = y.first_slot; closed_place = y.closed_place; position = y.position; closed_at = y.closed_at; length = y.length; hand = y.hand; stage = y.stage; notes = y.notes })
  seen_here false u u' j s y = subst (λ z. IsHere z j) (sym s) y

  pub reads_here : (w : QueueWord) (x : ℕ) (v' : View) → Reads w x v v' → MayLook w v → IsWord (place_count v) (slot_count v) w → IsHere v' (here_after w x h)
  reads_here w x v' r may near = seen_here (sees_in_flight w x v) (loaded w x v) v' (here_after w x h) r.sees (loaded_here w x r.told may near)

abbrev SameNumbers : View → View → Type 0
SameNumbers v u = (u.caller ≡ v.caller) × (u.callers ≡ v.callers) × (u.held ≡ v.held) × (u.made ≡ v.made)

-- a load changes nothing of the pass's numbers
same_numbers : (w : QueueWord) (x : ℕ) (v v' : View) → Reads w x v v' → (v'.caller ≡ v.caller) × (v'.callers ≡ v.callers) × (v'.held ≡ v.held) × (v'.made ≡ v.made)
same_numbers w x v v' r = seen (sees_in_flight w x v) r.sees
  where
    begins : SameNumbers v (begun w v)
    begins = cond_both (begins_call w && is_at_rest v.hand v.stage v.window) (record v { notes = blank; paid = false }) v (SameNumbers v) (λ _. (refl, refl, refl, refl)) (λ _. (refl, refl, refl, refl))

    seen : (b : Bool) → Sees b (loaded w x v) v' → SameNumbers v v'
    seen true s = subst (SameNumbers v) (sym s.4) begins
    seen false s = subst (SameNumbers v) (sym s) begins

pub word_in : (f : Form) (v : View) (w : QueueWord) → v.object ≡ object_of f → v.callers ≡ f.callers → IsShape f → IsWord f.places f.slots w → IsWord (place_count v) (slot_count v) w
word_in f v w object callers shape near =
    subst (λ (z : ℕ × ℕ). IsWord z.0 z.1 w) (λ i. ((shape.places ∙ (λ j. places_in (sym object j) (sym callers j))) i, (shape.slots ∙ ap slots_in (sym object)) i)) near

pub reads_pass : (me me' : Me ℕ View) (n : NumbersView) (h h' : Here) (w : QueueWord) (x : ℕ) → IsPass me n h → me'.1 ≡ me.1 → Reads w x me.0 me'.0 → MayLook w me.0 → IsWord (place_count me.0) (slot_count me.0) w → h' ≡ here_after w x h → IsPass me' n h'
reads_pass me me' n h h' w x k carried r may near is = let s = same_numbers w x me.0 me'.0 r in record {
  none = carried ∙ k.none;
  caller = s.0 ∙ k.caller;
  callers = s.1 ∙ k.callers;
  held = s.2 ∙ k.held;
  made = s.3 ∙ k.made;
  here = subst (IsHere me'.0) (sym is) (reads_here me.0 h k.here w x me'.0 r may near);
}
