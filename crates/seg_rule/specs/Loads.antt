-- What a load tells the pass that makes it, by the word and the value.
use Rattle.std.specs.Prelude.{◌≡◌, ◌≢◌, ◌≤◌, ℕ, ◌+◌, ◌*◌, ◌/◌, ◌%◌, Bool, true, false, cond, eqb, ltb, leb, not, ◌&&◌, List, [], ◌∷◌, ◌++◌, Option, Some, None}
use Rattle.seg_rule.specs.declared.word.QueueWord.{QueueWord}
use Rattle.seg_rule.specs.declared.word.QueueWord.TheVariants.{Head, Turn, Current, First, Tail, Start, Length, Observers, Done, Next, Segment, Number, Item}
use Rattle.seg_rule.specs.declared.view.View.{View}
use Rattle.seg_rule.specs.declared.view.Notes.{Notes}
use Rattle.seg_rule.specs.declared.view.OpenTail.{OpenTail}
use Rattle.seg_rule.specs.declared.view.Front.{Front}
use Rattle.seg_rule.specs.declared.view.Candidate.{Candidate}
use Rattle.seg_rule.specs.declared.view.Scan.{Scan}
use Rattle.seg_rule.specs.declared.view.Window.{Window}
use Rattle.seg_rule.specs.declared.view.Obstacle.{Obstacle}
use Rattle.seg_rule.specs.declared.view.Obstacle.TheVariants.{HeadMoved, TailMoved, ClosedCurrent, NotFree, NotPublished, Unpublished, IsCurrent, InChain, Unfinished, Observed}
use Rattle.seg_rule.specs.declared.view.Leave.{Leave}
use Rattle.seg_rule.specs.declared.view.Leave.TheVariants.{Unread, Granted, Measured, Refused}
use Rattle.seg_rule.specs.declared.view.Hand.{Hand}
use Rattle.seg_rule.specs.declared.view.Hand.TheVariants.{Nothing, Reserved, Stored, Taking}
use Rattle.seg_rule.specs.declared.view.Stage.{Stage}
use Rattle.seg_rule.specs.declared.view.Stage.TheVariants.{Away, Closed, Found}
use Rattle.seg_rule.specs.Steps.{blank, MayMoveFirst}

-- what was read is this
abbrev pub is_read : Option ℕ → ℕ → Bool
is_read None x = false
is_read (Some y) x = eqb y x

-- what was read is another
abbrev pub is_other : Option ℕ → ℕ → Bool
is_other None x = false
is_other (Some y) x = not (eqb y x)

-- a head was read below this
abbrev pub is_below : Option ℕ → ℕ → Bool
is_below None x = false
is_below (Some h) x = ltb h x

-- where b holds, the head that was read
abbrev pub head_if : Bool → Option ℕ → Option ℕ → Option ℕ
head_if b h old = cond b h old

abbrev pub has_turn : Stage → Bool
has_turn Away = false
has_turn _ = true

abbrev pub has_closed : Stage → Bool
has_closed (Closed q t full) = true
has_closed _ = false

-- Notes on the tail.

-- an open tail; a closed one leaves the one that was noted
abbrev pub tail_note : ℕ → ℕ → Option OpenTail → Option OpenTail
tail_note p x old = cond (eqb (x % 2) 0) (Some (record { place = p; position = x / 2; length = None; number = None; fits = false; full = false })) old

-- the length of the place of the tail noted
abbrev pub length_note : ℕ → ℕ → Option OpenTail → Option OpenTail
length_note p x None = None
length_note p x (Some o) = cond (eqb o.place p) (Some (record o { length = Some x; fits = false; full = false })) (Some o)

-- and its segment word
abbrev pub segment_note : ℕ → ℕ → Option OpenTail → Option OpenTail
segment_note p x None = None
segment_note p x (Some o) = cond (eqb o.place p) (Some (record o { number = Some x })) (Some o)

-- the number of its slot, if the last number that was read is that
abbrev pub slot_note : ℕ → ℕ → ℕ → OpenTail → Option ℕ → Option OpenTail
slot_note p i x o None = Some (record o { fits = false; full = false })
slot_note p i x o (Some n) = cond (eqb o.place p && eqb (o.position % n) i) (Some (record o { fits = eqb x (2 * o.position); full = not (eqb x (2 * o.position)) })) (Some (record o { fits = false; full = false }))

abbrev pub number_tail : ℕ → ℕ → ℕ → Option OpenTail → Option OpenTail
number_tail p i x None = None
number_tail p i x (Some o) = slot_note p i x o o.length

-- Notes on the head.

-- the published number of the head noted, if the last number that was read is that
abbrev pub number_front : Option ℕ → ℕ → ℕ → ℕ → Option Front
number_front None p i x = None
number_front (Some h) p i x = cond (eqb x (2 * h + 1)) (Some (record { position = h; place = p; slot = i; item = None })) None

-- the item beside it
abbrev pub item_note : ℕ → ℕ → ℕ → Option Front → Option Front
item_note p i x None = None
item_note p i x (Some o) = cond (eqb o.place p && eqb o.slot i) (Some (record o { item = Some x })) (Some o)

-- the slot of the position h, in the first place, whose length was read
abbrev pub is_slot_of : ℕ → ℕ → ℕ → Option (ℕ × ℕ) → Bool
is_slot_of p i h None = false
is_slot_of p i h (Some (q, n)) = eqb q p && (ltb 0 n && eqb (h % n) i)

-- under the turn, the slot of the head noted, which lies below the end of the first segment
abbrev pub is_front_slot : Bool → ℕ → ℕ → Option ℕ → Scan → Bool
is_front_slot turn p i None o = false
is_front_slot turn p i (Some h) o = turn && (is_read o.inside h && (is_read o.first p && is_slot_of p i h o.length))

-- a number that is neither free nor published for the head noted
abbrev pub is_gone_by : Option ℕ → ℕ → Bool
is_gone_by None x = false
is_gone_by (Some h) x = not (eqb x (2 * h)) && not (eqb x (2 * h + 1))

abbrev pub is_free_by : Option ℕ → ℕ → Bool
is_free_by None x = false
is_free_by (Some h) x = eqb x (2 * h)

-- Notes on the chain.

abbrev pub first_scan : ℕ → Option ℕ → Scan → Scan
first_scan x h o = record o { first = Some x; past = head_if (is_read o.current x) h o.past }

abbrev pub current_scan : ℕ → Option ℕ → Scan → Scan
current_scan x h o = record o { current = Some x; past = head_if (is_read o.first x) h o.past }

-- an open tail at t
abbrev pub open_scan : ℕ → ℕ → Option ℕ → Scan → Scan
open_scan p t h o = record o { inside = head_if (is_read o.first p && is_below h t) h o.inside }

-- a closed tail at e
abbrev pub closed_scan : ℕ → ℕ → Option ℕ → Scan → Scan
closed_scan p e h o = record o {
  past = head_if (is_read o.first p && is_below h e) h o.past;
  inside = head_if (is_read o.first p && is_below h e) h o.inside;
  candidate = cond (is_other o.current p) (Some (record { place = p; end = e; start = None; spent = false })) o.candidate;
}

abbrev pub tail_scan : ℕ → ℕ → Option ℕ → Scan → Scan
tail_scan p x h o = cond (eqb (x % 2) 0) (open_scan p (x / 2) h o) (closed_scan p (x / 2) h o)

abbrev pub start_note : ℕ → ℕ → Option Candidate → Option Candidate
start_note p x None = None
start_note p x (Some c) = cond (eqb c.place p) (Some (record c { start = Some x; spent = false })) (Some c)

-- as many takes done as there were positions, where first was moved past its end
abbrev pub is_spent_by : ℕ → Candidate → Option ℕ → Option ℕ → Bool
is_spent_by x c None past = false
is_spent_by x c (Some s) None = false
is_spent_by x c (Some s) (Some h) = eqb (x + s) c.end && leb c.end h

abbrev pub done_note : Bool → ℕ → ℕ → Option ℕ → Option Candidate → Option Candidate
done_note closed p x past None = None
done_note closed p x past (Some c) = cond (closed && eqb c.place p) (Some (record c { spent = is_spent_by x c c.start past })) (Some c)

-- All notes of a load.

abbrev pub noted : Stage → QueueWord → ℕ → Notes → Notes
noted st Head x o = record o { head = Some x }
noted st Turn x o = o
noted st Current x o = record o { scan = current_scan x o.head o.scan }
noted st First x o = record o { scan = first_scan x o.head o.scan }
noted st (Tail p) x o = record o { tail = tail_note p x o.tail; scan = tail_scan p x o.head o.scan }
noted st (Start p) x o = record o { scan = record o.scan { candidate = start_note p x o.scan.candidate } }
noted st (Length p) x o = record o { tail = length_note p x o.tail; scan = record o.scan { length = Some (p, x) } }
noted st (Observers p) x o = record o { scan = record o.scan { observers = Some (p, x) } }
noted st (Done p) x o = record o { scan = record o.scan { candidate = done_note (has_closed st) p x o.scan.past o.scan.candidate } }
noted st (Next p) x o = record o { scan = record o.scan { next = Some (p, x) } }
noted st (Segment p) x o = record o { tail = segment_note p x o.tail }
noted st (Number p i) x o = record o {
  tail = number_tail p i x o.tail;
  front = number_front o.head p i x;
  gone = head_if (is_front_slot (has_turn st) p i o.head o.scan && is_gone_by o.head x) o.head o.gone;
}
noted st (Item p i) x o = record o { front = item_note p i x o.front }

-- The leave of a take, and what else a load changes.

-- of a take from the place q
abbrev pub hand_at : (Leave → Leave) → ℕ → Hand → Hand
hand_at f q Nothing = Nothing
hand_at f q (Reserved p r i x) = Reserved p r i x
hand_at f q (Stored p r i x) = Stored p r i x
hand_at f q (Taking p r i leave) = cond (eqb r q) (Taking p r i (f leave)) (Taking p r i leave)

-- the observers of its place
abbrev pub leave_by : ℕ → Leave → Leave
leave_by x Unread = cond (eqb x 0) Granted Refused
leave_by x l = l

-- the length of its place
abbrev pub measured_by : ℕ → Leave → Leave
measured_by n Granted = Measured n
measured_by n l = l

abbrev pub hand_after : QueueWord → ℕ → Hand → Hand
hand_after (Observers q) x h = hand_at (leave_by x) q h
hand_after (Length q) x h = hand_at (measured_by x) q h
hand_after _ x h = h

-- the place p is a spent candidate
abbrev pub is_spent_at : ℕ → Option Candidate → Bool
is_spent_at p None = false
is_spent_at p (Some c) = eqb c.place p && c.spent

-- the observers of a spent candidate
abbrev pub found_at : ℕ → ℕ → Option Candidate → Stage → Stage
found_at p x c (Closed q t true) = cond (eqb x 0 && is_spent_at p c) (Found q t p) (Closed q t true)
found_at p x c s = s

abbrev pub stage_after : QueueWord → ℕ → Notes → Stage → Stage
stage_after (Observers p) x o s = found_at p x o.scan.candidate s
stage_after _ x o s = s

-- Notes on the first place of a window.

-- of a window whose first place is p
abbrev pub at_first : (Window → Window) → ℕ → Option Window → Option Window
at_first f p None = None
at_first f p (Some o) = cond (eqb o.first p) (Some (f o)) (Some o)

abbrev pub window_after : QueueWord → ℕ → Option Window → Option Window
window_after (Tail p) x w = at_first (λ o. record o { ends = Some (x / 2) }) p w
window_after (Length p) x w = at_first (λ o. record o { length = Some x }) p w
window_after (Next p) x w = at_first (λ o. record o { after = Some x }) p w
window_after (Number p i) x w = at_first (λ o. record o { shown = Some (i, x) }) p w
window_after _ x w = w

-- in a place of the length that was read, the position a has the slot i
abbrev pub is_slot_by : Option ℕ → ℕ → ℕ → Bool
is_slot_by None i a = false
is_slot_by (Some n) i a = eqb (a % n) i

-- the position a is below the end that was read, or the place is the last one
abbrev pub is_inside : Bool → Option ℕ → ℕ → Bool
is_inside true ends a = true
is_inside false None a = false
is_inside false (Some e) a = ltb a e

-- the position a is one of the window and lies in the slot i of its first place, by what was read of that place
abbrev pub lies_at : Window → ℕ → ℕ → Bool
lies_at o i a = leb o.head a && (ltb a o.tail && (is_slot_by o.length i a && is_inside (eqb o.first o.last) o.ends a))

-- The obstacles that a load meets.

abbrev pub met_if : Bool → Obstacle → List Obstacle
met_if b o = cond b (o ∷ []) []

-- two heads that were read, the second above the first
abbrev pub head_obstacles : ℕ → Option ℕ → List Obstacle
head_obstacles x None = []
head_obstacles x (Some h) = met_if (ltb h x) (HeadMoved h x)

-- two open tails that were read, the second above the first
abbrev pub open_obstacles : ℕ → Option OpenTail → List Obstacle
open_obstacles t None = []
open_obstacles t (Some o) = met_if (ltb o.position t) (TailMoved o.position t)

abbrev pub chain_obstacles : Bool → ℕ → ℕ → Option ℕ → Option ℕ → List Obstacle
chain_obstacles closed p e current None = []
chain_obstacles closed p e current (Some h) = met_if (closed && (is_other current p && ltb h e)) (InChain p e h)

abbrev pub closed_obstacles : Bool → ℕ → ℕ → Scan → List Obstacle
closed_obstacles closed p e o = met_if (is_read o.current p) (ClosedCurrent p) ++ chain_obstacles closed p e o.current o.past

-- the slot of the open tail of the current place
abbrev pub tail_slot_obstacles : ℕ → ℕ → ℕ → Scan → OpenTail → Option ℕ → List Obstacle
tail_slot_obstacles p i x scan o None = []
tail_slot_obstacles p i x scan o (Some n) = met_if (is_read scan.current p && (eqb o.place p && (eqb (o.position % n) i && not (eqb x (2 * o.position))))) (NotFree p o.position x)

abbrev pub not_free_obstacles : ℕ → ℕ → ℕ → Scan → Option OpenTail → List Obstacle
not_free_obstacles p i x scan None = []
not_free_obstacles p i x scan (Some o) = tail_slot_obstacles p i x scan o o.length

-- the slot of the head in the first place
abbrev pub not_published_obstacles : ℕ → ℕ → ℕ → Option ℕ → Scan → List Obstacle
not_published_obstacles p i x None o = []
not_published_obstacles p i x (Some h) o = met_if (is_read o.first p && (is_slot_of p i h o.length && not (eqb x (2 * h + 1)))) (NotPublished p h x)

-- and in the place where it lies
abbrev pub unpublished_obstacles : Bool → ℕ → ℕ → ℕ → Option ℕ → Scan → List Obstacle
unpublished_obstacles turn p i x None o = []
unpublished_obstacles turn p i x (Some h) o = met_if (is_front_slot turn p i (Some h) o && eqb x (2 * h)) (Unpublished p h x)

-- fewer takes done than positions, once first was moved past the end
abbrev pub is_unfinished_by : ℕ → Candidate → Option ℕ → Option ℕ → Bool
is_unfinished_by x c None past = false
is_unfinished_by x c (Some s) None = false
is_unfinished_by x c (Some s) (Some h) = leb c.end h && not (eqb (x + s) c.end)

abbrev pub done_obstacles : Bool → ℕ → ℕ → Option ℕ → Option Candidate → List Obstacle
done_obstacles closed p x past None = []
done_obstacles closed p x past (Some c) = met_if (closed && (eqb c.place p && is_unfinished_by x c c.start past)) (Unfinished p x)

abbrev pub observers_obstacles : Bool → ℕ → ℕ → Option Candidate → List Obstacle
observers_obstacles closed p x None = []
observers_obstacles closed p x (Some c) = met_if (closed && (eqb c.place p && not (eqb x 0))) (Observed p)

abbrev pub obstacles : Stage → QueueWord → ℕ → Notes → List Obstacle
obstacles st Head x o = head_obstacles x o.head
obstacles st Current x o = met_if (has_closed st) (IsCurrent x)
obstacles st (Tail p) x o = cond (eqb (x % 2) 0) (open_obstacles (x / 2) o.tail) (closed_obstacles (has_closed st) p (x / 2) o.scan)
obstacles st (Observers p) x o = observers_obstacles (has_closed st) p x o.scan.candidate
obstacles st (Done p) x o = done_obstacles (has_closed st) p x o.scan.past o.scan.candidate
obstacles st (Number p i) x o = not_free_obstacles p i x o.scan o.tail ++ (not_published_obstacles p i x o.head o.scan ++ unpublished_obstacles (has_turn st) p i x o.head o.scan)
obstacles st _ x o = []

-- the free number of a position of a window, in its first place, beside what else is met
abbrev pub unpublished_too : ℕ → ℕ → ℕ → Option Window → List Obstacle → List Obstacle
unpublished_too p i x None met = met
unpublished_too p i x (Some o) met = met ++ met_if (eqb o.first p && (eqb (x % 2) 0 && lies_at o i (x / 2))) (Unpublished p (x / 2) x)

abbrev pub window_obstacles : QueueWord → ℕ → Option Window → List Obstacle → List Obstacle
window_obstacles (Number p i) x w met = unpublished_too p i x w met
window_obstacles _ x w met = met

-- First store: the next place p is first. Where it is the current one, it is past the head noted.
abbrev pub end_noted : Option Candidate → Option ℕ
end_noted None = None
end_noted (Some c) = Some c.end

abbrev pub moved_scan : ℕ → Option ℕ → Scan → Scan
moved_scan p h o = record { first = Some p; current = o.current; length = None; observers = None; next = None; past = head_if (is_read o.current p) h None; inside = None; moved = end_noted o.candidate; candidate = None }

abbrev pub first_moved : View → ℕ → View
first_moved v p = record v { notes = record v.notes { scan = moved_scan p v.notes.head v.notes.scan } }

-- The first place p was read under the turn, with its closed tail at the noted head or below, and so were the current one, another, and the next one r.
pub record MayMove (v : View) (r : ℕ) : Type 0 where
  pub stage : MayMoveFirst v.stage
  pub place : ℕ
  pub current : ℕ
  pub head : ℕ
  pub closed : Candidate
  pub first : v.notes.scan.first ≡ Some place
  pub is_current : v.notes.scan.current ≡ Some current
  pub other : place ≢ current
  pub noted : v.notes.head ≡ Some head
  pub ended : v.notes.scan.candidate ≡ Some closed
  pub there : closed.place ≡ place
  pub below : closed.end ≤ head
  pub next : v.notes.scan.next ≡ Some (place, r)

-- A load of the current place or of the first one, by a pass that has nothing in hand, no turn and no window, begins a call: nothing is noted any more, and a call that was counted and made no entry is given up.
abbrev pub is_at_rest : Hand → Stage → Option Window → Bool
is_at_rest Nothing Away None = true
is_at_rest _ _ _ = false

abbrev pub begins_call : QueueWord → Bool
begins_call Current = true
begins_call First = true
begins_call _ = false

abbrev pub begun : QueueWord → View → View
begun w v = cond (begins_call w && is_at_rest v.hand v.stage v.window) (record v { notes = blank; paid = false }) v

abbrev pub told : QueueWord → ℕ → View → View
told w x v = record v {
  met = v.met ++ window_obstacles w x v.window (obstacles v.stage w x v.notes);
  notes = noted v.stage w x v.notes;
  hand = hand_after w x v.hand;
  stage = stage_after w x v.notes v.stage;
  window = window_after w x v.window;
}

-- the view after a load of a word that read this
abbrev pub loaded : QueueWord → ℕ → View → View
loaded w x v = told w x (begun w v)
