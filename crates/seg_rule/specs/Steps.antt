-- What each kind of step asks of the view of the pass that makes it, and what it leaves.
use Rattle.std.specs.Prelude.{◌≤◌, suc, ◌/◌, eqb, not, Option, ◌≡◌, ◌≢◌, replicate, ◌⊎◌, ℕ, ◌+◌, ◌*◌, ◌%◌, ◌^◌, ◌<◌, Bool, true, false, cond, List, [], ◌∷◌, ◌++◌, slice_index, Some, None}
use Rattle.ho_model.specs.declared.marks.EntryMark.{EntryMark}
use Rattle.ho_model.specs.declared.marks.CallMark.TheVariants.{Enq, Deq}
use Rattle.ho_model.specs.declared.marks.ReplyMark.TheVariants.{Done, Item}
use Rattle.ho_model.specs.Entries.{entry}
use Rattle.passes.specs.Numbers.{HasNumber, raised, only, give, held_both, made_both, first_held}
use Rattle.ho_base.specs.Marks.{number_priority}
use Rattle.ho_model.specs.declared.marks.Tally.{Tally}
use Rattle.ho_model.specs.Tallies.{tally_of}
use Rattle.passes.specs.Seen.{SeesEntry, IsLawful, longer}
use Rattle.seg_rule.specs.declared.view.Obstacle.{Obstacle}
use Rattle.seg_rule.specs.declared.view.Obstacle.TheVariants.{HeadMoved, TailMoved, Turned, ClosedCurrent}
use Rattle.atomic_table.specs.Table.{Me, Step}
use Rattle.seg_layout.specs.Lengths.{next_len_of}
use Rattle.seg_rule.specs.declared.form.Form.{Form}
use Rattle.seg_rule.specs.Rule.{object_of, IsWhole}
use Rattle.seg_rule.specs.declared.view.View.{View}
use Rattle.seg_rule.specs.declared.view.Notes.{Notes}
use Rattle.seg_rule.specs.declared.view.Scan.{Scan}
use Rattle.seg_rule.specs.declared.view.OpenTail.{OpenTail}
use Rattle.seg_rule.specs.declared.view.Front.{Front}
use Rattle.seg_rule.specs.declared.view.Leave.TheVariants.{Unread, Measured, Released}
use Rattle.seg_rule.specs.declared.view.Leave.{Leave}
use Rattle.seg_rule.specs.declared.view.Hand.{Hand}
use Rattle.seg_rule.specs.declared.view.Hand.TheVariants.{Nothing, Reserved, Stored, Taking}
use Rattle.seg_rule.specs.declared.view.Stage.{Stage}
use Rattle.seg_rule.specs.declared.view.Stage.TheVariants.{Away, Plain, Closed, Found, Preparing, Opened, Linked, Observing}

abbrev pub blank_scan : Scan
blank_scan = record { first = None; current = None; length = None; observers = None; next = None; past = None; inside = None; moved = None; candidate = None }

abbrev pub blank : Notes
blank = record { head = None; gone = None; tail = None; front = None; scan = blank_scan }

-- nothing is known of the chain any more
abbrev pub no_scan : Notes → Notes
no_scan o = record o { scan = blank_scan }

-- a call is counted at its turn, or at its entry
abbrev pub count_made : Bool → List ℕ → ℕ → List ℕ
count_made paid made c = cond paid made (raised made c)

abbrev pub MayCount : View → Type 0
MayCount v = HasNumber v.held v.caller × ((v.paid ≡ true) ⊎ (slice_index v.made v.caller < 2 ^ 48))

-- an entry: all that was there, and then this
abbrev pub entered : View → List EntryMark → EntryMark → Hand → View
entered v log e hand = record v { seen = log ++ e ∷ []; joint = None; made = count_made v.paid v.made v.caller; paid = false; notes = blank; hand = hand }

abbrev pub in_hand : View → Hand → View
in_hand v hand = record v { hand = hand }

-- an open tail whose slot is free for it
abbrev pub fit_tail : ℕ → ℕ → ℕ → Option ℕ → Bool → OpenTail
fit_tail place position length number full = record { place = place; position = position; length = Some length; number = number; fits = true; full = full }

abbrev pub front_of : ℕ → ℕ → ℕ → ℕ → Front
front_of position place slot item = record { position = position; place = place; slot = slot; item = Some item }

-- tail reserve, of the tail t in the place q with the length n
pub record MayReserve (room : ℕ) (v : View) (q t n : ℕ) : Type 0 where
  pub idle : v.hand ≡ Nothing
  pub may : MayCount v
  pub full : Bool
  pub number : Option ℕ
  pub tail : v.notes.tail ≡ Some (fit_tail q t n number full)
  pub head : ℕ
  pub noted : v.notes.head ≡ Some head
  pub room_there : t < head + room

-- What an entry tells: the pass sees the whole history with it, which is legal, and the counts before it.
pub record Enters (v : View) (e : EntryMark) (counts : Tally → Type 0) (hand : Hand) (w : View) : Type 0 where
  pub before : List EntryMark
  pub seen : SeesEntry v.held v.seen before e (before ++ e ∷ [])
  pub lawful : IsLawful number_priority v.object v.callers (before ++ e ∷ [])
  pub counted : counts (tally_of before)
  pub left : w ≡ entered v before e hand

abbrev pub Reserves : View → ℕ → ℕ → ℕ → ℕ → View → Type 0
Reserves v q t i x w = Enters v (entry v.caller (Enq (x ∷ [])) Done) (λ counts. counts.enqueued ≡ t) (Reserved t q i x) w

-- the slot of the tail was read as not free for it, so that the segment is full
abbrev pub is_full : Option OpenTail → Bool
is_full None = false
is_full (Some o) = o.full

-- a tail that was read above the position, if it was open
abbrev pub closed_current : ℕ → Option ℕ → List Obstacle
closed_current q None = []
closed_current q (Some p) = cond (eqb p q) (ClosedCurrent q ∷ []) []

abbrev pub tail_moved : ℕ → ℕ → ℕ → Option ℕ → List Obstacle
tail_moved q t x current = cond (eqb (x % 2) 0) (TailMoved t (x / 2) ∷ []) (closed_current q current)

-- the pass has the tail closed
abbrev pub keeps_closed : Stage → Bool
keeps_closed (Closed q t full) = true
keeps_closed (Found q t p) = true
keeps_closed (Preparing d q t n w) = true
keeps_closed (Observing q t b n p) = true
keeps_closed _ = false

-- An exchange of the tail from an open one at t found another word. An open one is above, and there is another caller. A closed one is closed by another caller, while this one has no turn, unless this one has it closed.
pub record MissesTail (v : View) (q t x : ℕ) (w : View) : Type 0 where
  pub above : (u : ℕ) → x ≡ 2 * u → (t < u) × (¬ IsWhole v)
  pub closed : (u : ℕ) → x ≡ 2 * u + 1 → (t ≤ u) × (keeps_closed v.stage ≡ false → (v.stage ≡ Away) × (¬ IsWhole v))
  pub left : w ≡ record v { met = v.met ++ tail_moved q t x v.notes.scan.current }

-- head take, of the position h with the item y, in the slot i of the place q
pub record MayTake (v : View) (h q i y : ℕ) : Type 0 where
  pub idle : v.hand ≡ Nothing
  pub may : MayCount v
  pub head : v.notes.head ≡ Some h
  pub front : v.notes.front ≡ Some (front_of h q i y)

abbrev pub Takes : View → ℕ → ℕ → ℕ → ℕ → View → Type 0
Takes v h q i y w = Enters v (entry v.caller Deq (Item (y ∷ []))) (λ counts. counts.taken ≡ h) (Taking h q i Unread) w

-- an exchange of the head from h found another one, which is above, and there is another caller
pub record MissesHead (v : View) (h x : ℕ) (w : View) : Type 0 where
  pub above : (h < x) × (¬ IsWhole v)
  pub left : w ≡ record v { met = v.met ++ HeadMoved h x ∷ [] }

-- turn take
pub record MayTurn (v : View) : Type 0 where
  pub away : v.stage ≡ Away
  pub active : HasNumber v.held v.caller
  pub unpaid : v.paid ≡ false
  pub below : slice_index v.made v.caller < 2 ^ 48

abbrev pub turned : View → View
turned v = record v { made = raised v.made v.caller; paid = true; notes = blank; stage = Plain }

-- the turn is another caller's; what the pass has seen is legal
pub record MissesTurn (v : View) (x : ℕ) (w : View) : Type 0 where
  pub caller : ℕ
  pub is_caller : (x ≡ suc caller) × (caller < v.callers)
  pub not_held : ¬ HasNumber v.held caller
  pub not_whole : ¬ IsWhole v
  pub lawful : IsLawful number_priority v.object v.callers v.seen
  pub left : w ≡ record v { met = v.met ++ Turned caller ∷ [] }

-- the holder of the turn moves on, and what was read of the chain is not known any more
abbrev pub on_stage : View → Stage → View
on_stage v stage = record v { notes = no_scan v.notes; stage = stage }

-- tail close, of the open tail t that was noted in the place q
abbrev pub MayClose : View → ℕ → ℕ → Type 0
MayClose v q t = (v.stage ≡ Plain) × ((o : OpenTail) × (v.notes.tail ≡ Some o) × (o.place ≡ q) × (o.position ≡ t))

abbrev pub closed_at : View → ℕ → ℕ → View
closed_at v q t = on_stage v (Closed q t (is_full v.notes.tail))

-- a place that so many snapshots observe
abbrev pub is_observed : ℕ → Bool
is_observed count = not (eqb count 0)

-- The store that begins the preparation of the place p: it was found free, and the length follows from that which was read of the current place, and from how many snapshots were read to observe it since its tail was closed.
abbrev pub MayBegin : ℕ → View → ℕ → ℕ → Type 0
MayBegin first_len v p n = (q t l : ℕ) × (o : OpenTail) × (count : ℕ) × (v.stage ≡ Found q t p) × (v.notes.tail ≡ Some o) × (o.place ≡ q) × (o.position ≡ t) × (o.length ≡ Some l) × (v.notes.scan.observers ≡ Some (q, count)) × (n ≡ next_len_of first_len l (is_observed count))

-- the store of its segment word, which follows from that which was read of the current place
abbrev pub MayNumber : View → ℕ → ℕ → Type 0
MayNumber v p x = (d t n c : ℕ) × (o : OpenTail) × (v.stage ≡ Preparing d p t n 3) × (v.notes.tail ≡ Some o) × (o.place ≡ d) × (o.position ≡ t) × (o.number ≡ Some c) × (x ≡ (c + 1) % 2 ^ 64)

-- the store of the number of its slot i, the next one: that of a slot free for the first position there
abbrev pub MayShow : View → ℕ → ℕ → ℕ → Type 0
MayShow v p i x = (d t n position : ℕ) × (v.stage ≡ Preparing d p t n (4 + i)) × (t ≤ position) × (position < t + n) × (position % n ≡ i) × (x ≡ 2 * position)

-- first store: the holder of the turn has closed the current tail, or has not
abbrev pub MayMoveFirst : Stage → Type 0
MayMoveFirst Plain = Unit {0}
MayMoveFirst (Closed q t full) = Unit {0}
MayMoveFirst _ = ⊥

-- between calls nothing is in hand, and no window is open
pub record IsAtRest (v : View) : Type 0 where
  pub hand : v.hand ≡ Nothing
  pub stage : v.stage ≡ Away
  pub window : v.window ≡ None
  pub joint : v.joint ≡ None

-- a split: the number c is given away, and a seat with c alone has seen as much
abbrev pub without : View → ℕ → View
without v c = record v { held = give v.held c; notes = blank }

abbrev pub alone : View → ℕ → View
alone v c = record v { caller = c; held = only c; met = []; joint = None; notes = blank; paid = false; hand = Nothing; stage = Away; window = None }

-- a join: two views made one, and the one that has given its numbers away
abbrev pub joined : View → View → View
joined v w = record v { joint = Some (record { first = v.seen; second = w.seen; first_held = v.held; second_held = w.held }); held = held_both v.held w.held; made = made_both w.held v.made w.made; seen = longer v.seen w.seen; met = v.met ++ w.met; notes = blank }

abbrev pub gone : View → View
gone w = record w { joint = None; held = []; notes = blank }

-- the first pass: caller 0, which holds all numbers and has seen nothing
abbrev pub first_view : Form → View
first_view f = record {
  object = object_of f;
  callers = f.callers;
  caller = 0;
  held = first_held f.callers;
  made = replicate 64 0;
  seen = [];
  met = [];
  joint = None;
  paid = false;
  notes = blank;
  hand = Nothing;
  stage = Away;
  window = None;
}

-- a view that is none, where one has to be named
abbrev pub no_view : View
no_view = first_view (record { room = 0; first_len = 0; callers = 0; places = 0; slots = 0 })

-- What the steps tell: of the step, the seat before, the number found and the seat after.

abbrev pub stored_hand : Hand → Hand
stored_hand (Reserved p q i x) = Stored p q i x
stored_hand h = h

abbrev pub stores : Step ℕ → Me ℕ View → ℕ → Me ℕ View → Type 0
stores st m r w = w ≡ (in_hand m.0 (stored_hand m.0.hand), m.1)

abbrev pub publishes : Step ℕ → Me ℕ View → ℕ → Me ℕ View → Type 0
publishes st m r w = w ≡ (in_hand m.0 Nothing, m.1)

abbrev pub reserves : ℕ → ℕ → ℕ → ℕ → Step ℕ → Me ℕ View → ℕ → Me ℕ View → Type 0
reserves q t i x st m r w = (r ≡ 2 * t → Reserves m.0 q t i x w.0) × (r ≢ 2 * t → MissesTail m.0 q t r w.0) × (w.1 ≡ m.1)

abbrev pub takes : ℕ → ℕ → ℕ → ℕ → Step ℕ → Me ℕ View → ℕ → Me ℕ View → Type 0
takes h q i y st m r w = (r ≡ h → Takes m.0 h q i y w.0) × (r ≢ h → MissesHead m.0 h r w.0) × (w.1 ≡ m.1)

abbrev pub takes_turn : Step ℕ → Me ℕ View → ℕ → Me ℕ View → Type 0
takes_turn st m r w = (r ≡ 0 → w.0 ≡ turned m.0) × (r ≢ 0 → MissesTurn m.0 r w.0) × (w.1 ≡ m.1)

-- of the place q, whose open tail t was noted
abbrev pub closes : ℕ → ℕ → Step ℕ → Me ℕ View → ℕ → Me ℕ View → Type 0
closes q t st m r w = (r ≡ 2 * t → w.0 ≡ on_stage m.0 (Closed q t (is_full m.0.notes.tail))) × (r ≢ 2 * t → MissesTail m.0 q t r w.0) × (w.1 ≡ m.1)

abbrev pub opened_stage : Stage → Stage
opened_stage (Preparing d q t n w) = Opened d q t
opened_stage s = s

-- the slot of the tail of the new segment is free for it
abbrev pub opened_tail : Stage → Option OpenTail → Option OpenTail
opened_tail (Preparing d q t n w) old = Some (fit_tail q t n None false)
opened_tail s old = old

abbrev pub opened_by : Stage → View → View
opened_by s v = record v { notes = record (no_scan v.notes) { tail = opened_tail s v.notes.tail }; stage = opened_stage s }

-- tail open: what was read of the chain is not known any more, and the new tail is
abbrev pub opened : View → View
opened v = opened_by v.stage v

abbrev pub opens : Step ℕ → Me ℕ View → ℕ → Me ℕ View → Type 0
opens st m r w = w ≡ (opened m.0, m.1)

-- The stores of the holder of the turn: its stage moves on.

abbrev pub at_stage : (Stage → Stage) → Step ℕ → Me ℕ View → ℕ → Me ℕ View → Type 0
at_stage f st m r w = w ≡ (on_stage m.0 (f m.0.stage), m.1)

abbrev pub begun_stage : ℕ → Stage → Stage
begun_stage n (Found q t p) = Preparing q p t n 1
begun_stage n s = s

abbrev pub more_stage : Stage → Stage
more_stage (Preparing d p t n w) = Preparing d p t n (suc w)
more_stage s = s

abbrev pub linked_stage : Stage → Stage
linked_stage (Opened d q t) = Linked q t
linked_stage s = s

abbrev pub current_stage : Stage → Stage
current_stage s = Plain

abbrev pub reopened_stage : Stage → Stage
reopened_stage s = Plain

abbrev pub left_stage : Stage → Stage
left_stage s = Away

-- What follows a head take.

abbrev pub on_leave : (Leave → Leave) → Hand → Hand
on_leave f (Taking p q i l) = Taking p q i (f l)
on_leave f h = h

abbrev pub released : Leave → Leave
released (Measured n) = Released
released l = l

abbrev pub releases : Step ℕ → Me ℕ View → ℕ → Me ℕ View → Type 0
releases st m r w = w ≡ (in_hand m.0 (on_leave released m.0.hand), m.1)
