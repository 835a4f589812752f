-- A snapshot's kinds of step: observe add, head look, observe end.
use Rattle.std.specs.Prelude.{◌≡◌, ◌≢◌, ℕ, suc, ◌≤◌, ◌⊎◌, Bool, false, cond, eqb, ltb, List, [], ◌∷◌, ◌++◌, drop, map, Option, Some, None}
use Rattle.atomic_table.specs.Table.{Me, Step}
use Rattle.ho_base.specs.Marks.{number_of, number_priority}
use Rattle.ho_model.specs.declared.marks.EntryMark.{EntryMark}
use Rattle.ho_model.specs.declared.marks.CallMark.TheVariants.{Snap}
use Rattle.ho_model.specs.declared.marks.ReplyMark.TheVariants.{Numbers}
use Rattle.ho_model.specs.Entries.{entry}
use Rattle.ho_model.specs.Enqueues.{values_of}
use Rattle.ho_model.specs.Tallies.{tally_of}
use Rattle.passes.specs.Seen.{SeesEntry, IsLawful}
use Rattle.seg_rule.specs.declared.view.View.{View}
use Rattle.seg_rule.specs.declared.view.Window.{Window}
use Rattle.seg_rule.specs.declared.view.Stage.{Stage}
use Rattle.seg_rule.specs.declared.view.Stage.TheVariants.{Closed, Observing}
use Rattle.seg_rule.specs.Steps.{entered, no_scan, MayCount}

-- Observe add.

-- a window that is not read yet, over the segments from b up to e, of which the first and the last lie in the places p and q
abbrev pub window_over : ℕ → ℕ → ℕ → ℕ → Window
window_over b e p q = record { begin = b; end = e; head = 0; tail = 0; first = p; last = q; after = None; ends = None; length = None; shown = None }

-- with the tail of the place q closed at t, the segments from b up to and with n are observed, of which the first and the last lie in the places p and r
abbrev pub observing : View → ℕ → ℕ → ℕ → ℕ → ℕ → ℕ → View
observing v q t b n p r = record v { notes = no_scan v.notes; stage = Observing q t b n r; window = Some (window_over b (suc n) p r) }

-- the place r was read as first, with the tail closed and no window open
pub record MayObserveFirst (v : View) (r : ℕ) : Type 0 where
  pub current : ℕ
  pub tail : ℕ
  pub full : Bool
  pub stage : v.stage ≡ Closed current tail full
  pub none : v.window ≡ None
  pub first : v.notes.scan.first ≡ Some r

-- the place r was read as the one after that which was observed last, and this is not the current one
pub record MayObserveNext (v : View) (r : ℕ) : Type 0 where
  pub current : ℕ
  pub tail : ℕ
  pub segment : ℕ
  pub place : ℕ
  pub seen : Window
  pub stage : v.stage ≡ Observing current tail seen.begin segment place
  pub there : v.window ≡ Some seen
  pub ends : seen.end ≡ suc segment
  pub other : place ≢ current
  pub next : v.notes.scan.next ≡ Some (place, r)

abbrev pub MayObserve : View → ℕ → Type 0
MayObserve v r = MayObserveFirst v r ⊎ MayObserveNext v r

abbrev pub first_of : Option Window → ℕ
first_of None = 0
first_of (Some o) = o.first

-- the window is over the segment of the place r too, and begins with it where it is the first
abbrev pub ObservesFrom : Stage → View → ℕ → View → Type 0
ObservesFrom (Closed q t full) v r w = (b : ℕ) × (w ≡ observing v q t b b r r)
ObservesFrom (Observing q t b n p) v r w = w ≡ observing v q t b (suc n) (first_of v.window) r
ObservesFrom _ v r w = ⊥

abbrev pub Observes : View → ℕ → View → Type 0
Observes v r w = ObservesFrom v.stage v r w

-- Head look.

-- the places from the first to the current one are observed
pub record MayLookAll (v : View) : Type 0 where
  pub may : MayCount v
  pub current : ℕ
  pub tail : ℕ
  pub segment : ℕ
  pub seen : Window
  pub stage : v.stage ≡ Observing current tail seen.begin segment current
  pub there : v.window ≡ Some seen
  pub ends : seen.end ≡ suc segment

-- the tail that is closed while places are observed
abbrev pub tail_at : Stage → ℕ
tail_at (Observing q t b n p) = t
tail_at _ = 0

abbrev pub looked_stage : Stage → Stage
looked_stage (Observing q t b n p) = Closed q t false
looked_stage s = s

-- the window has the positions from the head h up to that tail
abbrev pub looked_window : ℕ → Stage → Option Window → Option Window
looked_window h (Observing q t b n p) (Some o) = Some (record (window_over o.begin o.end o.first p) { head = h; tail = t })
looked_window h _ w = w

-- the numbers of all items that a history leaves of which h were taken
abbrev pub numbers_from : ℕ → List EntryMark → List ℕ
numbers_from h history = map number_of (drop h (values_of history))

abbrev pub snap_of : View → ℕ → List EntryMark → EntryMark
snap_of v h history = entry v.caller Snap (Numbers (numbers_from h history))

-- The head was read as h. The pass sees the whole history with the entry of the snapshot, whose reply is the whole queue, and the counts before it.
pub record Snaps (v : View) (h : ℕ) (w : View) : Type 0 where
  pub before : List EntryMark
  pub seen : SeesEntry v.held v.seen before (snap_of v h before) (before ++ snap_of v h before ∷ [])
  pub lawful : IsLawful number_priority v.object v.callers (before ++ snap_of v h before ∷ [])
  pub enqueued : (tally_of before).enqueued ≡ tail_at v.stage
  pub taken : (tally_of before).taken ≡ h
  pub left : w ≡ record (entered v before (snap_of v h before) v.hand) { stage = looked_stage v.stage; window = looked_window h v.stage v.window }

-- Observe end.

-- the place p is the first of the window, and the next one was read, if it is not the last
pub record MayEnd (v : View) (p : ℕ) : Type 0 where
  pub seen : Window
  pub there : v.window ≡ Some seen
  pub first : seen.first ≡ p
  pub next : seen.first ≢ seen.last → (r : ℕ) × (seen.after ≡ Some r)

-- the first position from h up to t that the places after the first one have. Where its end was not read, none is known
abbrev pub left_from : Option ℕ → ℕ → ℕ → ℕ
left_from None h t = t
left_from (Some e) h t = cond (ltb h e) e h

-- the segments after the first one, of which the next lies in this place, and their positions
abbrev pub rest_of : Window → Option ℕ → Option Window
rest_of o None = None
rest_of o (Some r) = Some (record (window_over (suc o.begin) o.end r o.last) { head = left_from o.ends o.head o.tail; tail = o.tail })

abbrev pub ended : Option Window → Option Window
ended None = None
ended (Some o) = cond (eqb o.first o.last) None (rest_of o o.after)

abbrev pub without_first : View → View
without_first v = record v { window = ended v.window }

-- What the steps tell.

abbrev pub observes : ℕ → Step ℕ → Me ℕ View → ℕ → Me ℕ View → Type 0
observes p st m r m' = Observes m.0 p m'.0 × (m'.1 ≡ m.1)

abbrev pub snaps : Step ℕ → Me ℕ View → ℕ → Me ℕ View → Type 0
snaps st m r m' = Snaps m.0 r m'.0 × (r ≤ tail_at m.0.stage) × (m'.1 ≡ m.1)

abbrev pub ends : Step ℕ → Me ℕ View → ℕ → Me ℕ View → Type 0
ends st m r m' = m' ≡ (without_first m.0, m.1)
