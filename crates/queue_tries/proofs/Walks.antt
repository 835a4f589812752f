-- How the parts of a try are put together: its walk before the entry, the entry, what follows it, and the end.
use Rattle.std.proofs.Common.{◌≡◌, ℕ, ◌+◌, ◌<◌, ◌≤◌, ◌≢◌, zero, suc, Bool, true, false, true≢false, cond, eqb, ◌&&◌, ⊎_elim, List, [], ◌∷◌, ◌++◌, get_or, set, sym, refl, ap, ◌∙◌, subst, append_assoc, append-nil, arith}
use Rattle.std.specs.Prelude.{Option, None, Some, ◌*◌, ◌/◌, ◌%◌, Contains}
use Rattle.std.proofs.lemmas.Bool.{cases_eq}
use Rattle.std.proofs.lemmas.List.Elements.{Contains-push, Contains-append_left, Contains-append_right}
use Rattle.ho_base.specs.Marks.{number_priority}
use Rattle.ho_base.specs.declared.receipts.Receipt.{Receipt}
use Rattle.ho_model.specs.declared.marks.EntryMark.{EntryMark}
use Rattle.ho_model.specs.declared.marks.CallMark.{CallMark}
use Rattle.ho_model.specs.declared.marks.ReplyMark.{ReplyMark}
use Rattle.ho_model.specs.declared.marks.Tally.{Tally}
use Rattle.ho_model.specs.declared.objects.Object.{Object}
use Rattle.ho_model.specs.Entries.{entry}
use Rattle.ho_model.specs.QueueReceipts.{IsQueueReceipt}
use Rattle.ho_model.specs.Tallies.{tally_of}
use Rattle.passes.specs.Numbers.{HasNumber, HasAll, raised}
use Rattle.passes.specs.Seen.{SeesEntry, IsLawful}
use Rattle.passes.specs.Calls.{IsSamePass}
use Rattle.passes.specs.Repeats.{Counts}
use Rattle.seg_rule.specs.declared.view.View.{View}
use Rattle.seg_rule.specs.declared.view.Notes.{Notes}
use Rattle.seg_rule.specs.declared.view.Window.{Window}
use Rattle.seg_rule.specs.declared.view.Obstacle.{Obstacle}
use Rattle.seg_rule.specs.declared.view.Obstacle.TheVariants.{TailMoved, Turned, IsCurrent}
use Rattle.seg_rule.specs.declared.view.Hand.{Hand}
use Rattle.seg_rule.specs.declared.view.Hand.TheVariants.{Nothing, Reserved, Stored, Taking}
use Rattle.seg_rule.specs.declared.view.Stage.{Stage}
use Rattle.seg_rule.specs.declared.view.Stage.TheVariants.{Away, Plain, Closed, Found, Preparing, Opened, Linked, Observing}
use Rattle.seg_rule.specs.declared.word.QueueWord.{QueueWord}
use Rattle.seg_rule.specs.declared.word.QueueWord.TheVariants.{Head, Turn, Current, First, Tail, Start, Length, Observers, Done, Next, Segment, Number, Item}
use Rattle.seg_rule.specs.Steps.{blank, blank_scan, count_made, turned, tail_moved, closed_current, keeps_closed, Enters, MissesTail, MissesTurn, IsAtRest}
use Rattle.seg_rule.specs.Loads.{begun, loaded, told, begins_call, is_at_rest, has_turn, has_closed, obstacles, met_if, hand_after, window_after, window_obstacles}
use Rattle.seg_rule.specs.Rule.{IsWhole}
use Rattle.seg_rule.specs.Plays.{Reads}
use Rattle.seg_rule.specs.Tells.{first_len_in, sees_in_flight, Sees}
use Rattle.seg_rule.specs.Passes.{QueueShape, QueueView, IsOf, pass_of}
use Rattle.queue_tries.specs.Causes.{TailHasMoved, IsTurned}
use Rattle.queue_tries.specs.Tries.{IsCountOf, MakesEntry, MakesNone, HasNoCallLeft}
use Rattle.queue_tries.specs.declared.answers.QueueAgain.{QueueAgain}
use Rattle.queue_tries.specs.Loads.{told_alone}
use Rattle.queue_tries.specs.Walks.{counted, Keeps, GoesOn, Walks, WalksFree, WalksPaid, Made}

-- Steps that make no entry.

-- what was met first, and then more
met_on : (first second : List Obstacle) (a b c : List Obstacle) → b ≡ a ++ first → c ≡ b ++ second → c ≡ a ++ (first ++ second)
met_on first second a b c x y = y ∙ (ap (λ (z : List Obstacle). z ++ second) x ∙ append_assoc a first second)

pub keeps_none : (v : View) → Keeps v v []
keeps_none v = record { object = refl; callers = refl; caller = refl; held = refl; seen = refl; made = refl; joint = refl; window = refl; met = sym (append-nil v.met) }

pub keeps_on : (v w u : View) (first second : List Obstacle) → Keeps v w first → Keeps w u second → Keeps v u (first ++ second)
keeps_on v w u first second a b = record {
  object = b.object ∙ a.object;
  callers = b.callers ∙ a.callers;
  caller = b.caller ∙ a.caller;
  held = b.held ∙ a.held;
  seen = b.seen ∙ a.seen;
  made = b.made ∙ a.made;
  joint = b.joint ∙ a.joint;
  window = b.window ∙ a.window;
  met = met_on first second v.met w.met u.met a.met b.met;
}

-- a step that met something, and one that met nothing
pub keeps_met : (v w : View) (read : List Obstacle) (o : Notes) (h : Hand) (s : Stage) → w ≡ record v { met = v.met ++ read; notes = o; hand = h; stage = s } → Keeps v w read
keeps_met v w read o h s is = record {
  object = ap (λ (z : View). z.object) is;
  callers = ap (λ (z : View). z.callers) is;
  caller = ap (λ (z : View). z.caller) is;
  held = ap (λ (z : View). z.held) is;
  seen = ap (λ (z : View). z.seen) is;
  made = ap (λ (z : View). z.made) is;
  joint = ap (λ (z : View). z.joint) is;
  window = ap (λ (z : View). z.window) is;
  met = ap (λ (z : View). z.met) is;
}

pub keeps_quiet : (v w : View) (o : Notes) (h : Hand) (s : Stage) → w ≡ record v { notes = o; hand = h; stage = s } → Keeps v w []
keeps_quiet v w o h s is = keeps_met v w [] o h s (is ∙ ap (λ (z : List Obstacle). record v { met = z; notes = o; hand = h; stage = s }) (sym (append-nil v.met)))

pub goes_none : (v : View) → GoesOn v v []
goes_none v = record { keeps = keeps_none v; hand = refl; paid = refl }

pub goes_on : (v w u : View) (first second : List Obstacle) → GoesOn v w first → GoesOn w u second → GoesOn v u (first ++ second)
goes_on v w u first second a b = record { keeps = keeps_on v w u first second a.keeps b.keeps; hand = b.hand ∙ a.hand; paid = b.paid ∙ a.paid }

pub goes_met : (v w : View) (read : List Obstacle) (o : Notes) (s : Stage) → w ≡ record v { met = v.met ++ read; notes = o; stage = s } → GoesOn v w read
goes_met v w read o s is = record { keeps = keeps_met v w read o v.hand s is; hand = ap (λ (z : View). z.hand) is; paid = ap (λ (z : View). z.paid) is }

pub goes_quiet : (v w : View) (o : Notes) (s : Stage) → w ≡ record v { notes = o; stage = s } → GoesOn v w []
goes_quiet v w o s is = record { keeps = keeps_quiet v w o v.hand s is; hand = ap (λ (z : View). z.hand) is; paid = ap (λ (z : View). z.paid) is }

-- Loads.

rest_none : (h : Hand) (s : Stage) (o : Option Window) → has_turn s ≡ true → is_at_rest h s o ≡ false
rest_none Nothing Away o has = absurd (true≢false (sym has))
rest_none Nothing Plain o has = refl
rest_none Nothing (Closed a b c) o has = refl
rest_none Nothing (Found a b c) o has = refl
rest_none Nothing (Preparing a b c d e) o has = refl
rest_none Nothing (Opened a b c) o has = refl
rest_none Nothing (Linked a b) o has = refl
rest_none Nothing (Observing a b c d e) o has = refl
rest_none (Reserved a b c d) s o has = refl
rest_none (Stored a b c d) s o has = refl
rest_none (Taking a b c d) s o has = refl

no_begin : (b : Bool) (v : View) → cond (b && false) (record v { notes = blank; paid = false }) v ≡ v
no_begin true v = refl
no_begin false v = refl

-- a load by a pass that has the turn begins no call
pub turn_begun : (w : QueueWord) (v : View) → has_turn v.stage ≡ true → begun w v ≡ v
turn_begun w v has = ap (λ (b : Bool). cond (begins_call w && b) (record v { notes = blank; paid = false }) v) (rest_none v.hand v.stage v.window has) ∙ no_begin (begins_call w) v

-- and one of the first or the current place by a pass at rest does
pub rest_begun : (w : QueueWord) (v : View) → begins_call w ≡ true → IsAtRest v → begun w v ≡ record v { notes = blank; paid = false }
rest_begun w v begins rest i = cond (begins i && is_at_rest (rest.hand i) (rest.stage i) (rest.window i)) (record v { notes = blank; paid = false }) v

-- the view after a load that began no call, and saw no position in flight
pub reads_told : (w : QueueWord) (x : ℕ) (v u : View) → Reads w x v u → begun w v ≡ v → sees_in_flight w x v ≡ false → u ≡ told w x v
reads_told w x v u r same none = subst (λ (b : Bool). Sees b (loaded w x v) u) none r.sees ∙ ap (told w x) same

no_window : (w : QueueWord) (x : ℕ) → window_after w x None ≡ None
no_window Head x = refl
no_window Turn x = refl
no_window Current x = refl
no_window First x = refl
no_window (Tail p) x = refl
no_window (Start p) x = refl
no_window (Length p) x = refl
no_window (Observers p) x = refl
no_window (Done p) x = refl
no_window (Next p) x = refl
no_window (Segment p) x = refl
no_window (Number p i) x = refl
no_window (Item p i) x = refl

not_met : (w : QueueWord) (x : ℕ) (met : List Obstacle) → window_obstacles w x None met ≡ met
not_met Head x met = refl
not_met Turn x met = refl
not_met Current x met = refl
not_met First x met = refl
not_met (Tail p) x met = refl
not_met (Start p) x met = refl
not_met (Length p) x met = refl
not_met (Observers p) x met = refl
not_met (Done p) x met = refl
not_met (Next p) x met = refl
not_met (Segment p) x met = refl
not_met (Number p i) x met = refl
not_met (Item p i) x met = refl

-- what is left without a window
module _ (w : QueueWord) (x : ℕ) (v : View) (none : v.window ≡ None) where
  window_same : window_after w x v.window ≡ v.window
  window_same = ap (window_after w x) none ∙ (no_window w x ∙ sym none)

  met_same : (met : List Obstacle) → window_obstacles w x v.window met ≡ met
  met_same met = ap (λ (o : Option Window). window_obstacles w x o met) none ∙ not_met w x met

  pub alone : told w x v ≡ told_alone w x v
  alone = (λ i. record (told_alone w x v) { met = v.met ++ met_same (obstacles v.stage w x v.notes) i; window = window_same i })

pub no_hand : (w : QueueWord) (x : ℕ) → hand_after w x Nothing ≡ Nothing
no_hand Head x = refl
no_hand Turn x = refl
no_hand Current x = refl
no_hand First x = refl
no_hand (Tail p) x = refl
no_hand (Start p) x = refl
no_hand (Length p) x = refl
no_hand (Observers p) x = refl
no_hand (Done p) x = refl
no_hand (Next p) x = refl
no_hand (Segment p) x = refl
no_hand (Number p i) x = refl
no_hand (Item p i) x = refl

-- a load changes nothing but what is noted, met and in hand, and how far the pass is with the turn
pub told_keeps : (w : QueueWord) (x : ℕ) (v u : View) → u ≡ told w x v → v.window ≡ None → Keeps v u (obstacles v.stage w x v.notes)
told_keeps w x v u is window = record {
  object = ap (λ (z : View). z.object) is;
  callers = ap (λ (z : View). z.callers) is;
  caller = ap (λ (z : View). z.caller) is;
  held = ap (λ (z : View). z.held) is;
  seen = ap (λ (z : View). z.seen) is;
  made = ap (λ (z : View). z.made) is;
  joint = ap (λ (z : View). z.joint) is;
  window = ap (λ (z : View). z.window) is ∙ window_same w x v window;
  met = ap (λ (z : View). z.met) is ∙ ap (λ (z : List Obstacle). v.met ++ z) (met_same w x v window (obstacles v.stage w x v.notes));
}

pub told_goes : (w : QueueWord) (x : ℕ) (v u : View) → u ≡ told w x v → v.window ≡ None → v.hand ≡ Nothing → GoesOn v u (obstacles v.stage w x v.notes)
told_goes w x v u is window hand = record {
  keeps = told_keeps w x v u is window;
  hand = ap (λ (z : View). z.hand) is ∙ (ap (hand_after w x) hand ∙ (no_hand w x ∙ sym hand));
  paid = ap (λ (z : View). z.paid) is;
}

-- The beginning of a call.

-- what is noted when the current place was read first, and when the first one was
pub begins_current : (x : ℕ) (v u : View) → IsAtRest v → Reads Current x v u → u ≡ record v { notes = record blank { scan = record blank_scan { current = Some x } }; paid = false }
begins_current x v u rest r =
    r.sees ∙ (ap (told Current x) (rest_begun Current v refl rest)
    ∙ ap (λ (z : List Obstacle). record v { met = z; notes = record blank { scan = record blank_scan { current = Some x } }; paid = false }) (ap (λ (s : Stage). v.met ++ met_if (has_closed s) (IsCurrent x)) rest.stage ∙ append-nil v.met))

pub begins_first : (x : ℕ) (v u : View) → IsAtRest v → Reads First x v u → u ≡ record v { notes = record blank { scan = record blank_scan { first = Some x } }; paid = false }
begins_first x v u rest r =
    r.sees ∙ (ap (told First x) (rest_begun First v refl rest)
    ∙ ap (λ (z : List Obstacle). record v { met = z; notes = record blank { scan = record blank_scan { first = Some x } }; paid = false }) (append-nil v.met))

-- A call's walk.

pub walks_begin : (v w : View) (o : Notes) → IsAtRest v → IsLawful number_priority v.object v.callers v.seen → w ≡ record v { notes = o; paid = false } → WalksFree v w []
walks_begin v w o rest lawful is = record {
  walks = record {
    object = ap (λ (z : View). z.object) is;
    callers = ap (λ (z : View). z.callers) is;
    caller = ap (λ (z : View). z.caller) is;
    held = ap (λ (z : View). z.held) is;
    seen = ap (λ (z : View). z.seen) is;
    joint = ap (λ (z : View). z.joint) is ∙ rest.joint;
    hand = ap (λ (z : View). z.hand) is ∙ rest.hand;
    window = ap (λ (z : View). z.window) is ∙ rest.window;
    met = ap (λ (z : View). z.met) is ∙ sym (append-nil v.met);
    counts = ap counted is;
    lawful = lawful;
  };
  away = ap (λ (z : View). z.stage) is ∙ rest.stage;
  unpaid = ap (λ (z : View). z.paid) is;
  made = ap (λ (z : View). z.made) is;
}

pub counted_goes : (v w : View) (read : List Obstacle) → GoesOn v w read → counted w ≡ counted v
counted_goes v w read g i = count_made (g.paid i) (g.keeps.made i) (g.keeps.caller i)

pub walks_goes : (v w u : View) (first second : List Obstacle) → Walks v w first → GoesOn w u second → Walks v u (first ++ second)
walks_goes v w u first second a g = record {
  object = g.keeps.object ∙ a.object;
  callers = g.keeps.callers ∙ a.callers;
  caller = g.keeps.caller ∙ a.caller;
  held = g.keeps.held ∙ a.held;
  seen = g.keeps.seen ∙ a.seen;
  joint = g.keeps.joint ∙ a.joint;
  hand = g.hand ∙ a.hand;
  window = g.keeps.window ∙ a.window;
  met = met_on first second v.met w.met u.met a.met g.keeps.met;
  counts = counted_goes w u second g ∙ a.counts;
  lawful = a.lawful;
}

pub free_goes : (v w u : View) (first second : List Obstacle) → WalksFree v w first → GoesOn w u second → u.stage ≡ Away → WalksFree v u (first ++ second)
free_goes v w u first second a g away = record { walks = walks_goes v w u first second a.walks g; away = away; unpaid = g.paid ∙ a.unpaid; made = g.keeps.made ∙ a.made }

pub paid_goes : (v w u : View) (first second : List Obstacle) → WalksPaid v w first → GoesOn w u second → WalksPaid v u (first ++ second)
paid_goes v w u first second a g = record { walks = walks_goes v w u first second a.walks g; paid = g.paid ∙ a.paid; made = g.keeps.made ∙ a.made }

-- it takes the turn
pub walks_turned : (v w u : View) (read : List Obstacle) → WalksFree v w read → u ≡ turned w → WalksPaid v u read
walks_turned v w u read a is = let made : raised w.made w.caller ≡ raised v.made v.caller = (λ i. raised (a.made i) (a.walks.caller i)) in record {
  walks = record {
    object = ap (λ (z : View). z.object) is ∙ a.walks.object;
    callers = ap (λ (z : View). z.callers) is ∙ a.walks.callers;
    caller = ap (λ (z : View). z.caller) is ∙ a.walks.caller;
    held = ap (λ (z : View). z.held) is ∙ a.walks.held;
    seen = ap (λ (z : View). z.seen) is ∙ a.walks.seen;
    joint = ap (λ (z : View). z.joint) is ∙ a.walks.joint;
    hand = ap (λ (z : View). z.hand) is ∙ a.walks.hand;
    window = ap (λ (z : View). z.window) is ∙ a.walks.window;
    met = ap (λ (z : View). z.met) is ∙ a.walks.met;
    counts = ap counted is ∙ made;
    lawful = a.walks.lawful;
  };
  paid = ap (λ (z : View). z.paid) is;
  made = ap (λ (z : View). z.made) is ∙ made;
}

-- where a pass is not whole now, it was not when the call began
pub not_whole : (v w : View) (read : List Obstacle) → Walks v w read → (¬ IsWhole w) → ¬ IsWhole v
not_whole v w read a = subst (λ (z : ℕ × List Bool). ¬ HasAll z.0 z.1) (λ i. (a.callers i, a.held i))

pub not_whole_before : (v w : View) (read : List Obstacle) → GoesOn v w read → (¬ IsWhole w) → ¬ IsWhole v
not_whole_before v w read g = subst (λ (z : ℕ × List Bool). ¬ HasAll z.0 z.1) (λ i. (g.keeps.callers i, g.keeps.held i))

-- what was read stays read
pub tail_moved_among : (before read after : List Obstacle) → TailHasMoved read → TailHasMoved (before ++ (read ++ after))
tail_moved_among before read after m = (m.0, m.1, m.2, Contains-append_right before (read ++ after) (TailMoved m.0 m.1) (Contains-append_left read after (TailMoved m.0 m.1) m.3))

-- it misses the turn
pub walks_missed : (v w u : View) (read : List Obstacle) (x : ℕ) → WalksFree v w read → (m : MissesTurn w x u) → WalksFree v u (read ++ Turned m.caller ∷ []) × IsTurned (read ++ Turned m.caller ∷ []) v read × (¬ IsWhole v)
walks_missed v w u read x a m = (
  free_goes v w u read (Turned m.caller ∷ []) a (goes_met w u (Turned m.caller ∷ []) w.notes w.stage m.left) (ap (λ (z : View). z.stage) m.left ∙ a.away),
  (
    m.caller,
    subst (λ (n : ℕ). m.caller < n) a.walks.callers m.is_caller.1,
    subst (λ (held : List Bool). ¬ HasNumber held m.caller) a.walks.held m.not_held,
    refl,
  ),
  not_whole v w read a.walks m.not_whole,
)

-- An open tail that was read moved on: under the turn, without having closed it, each exchange that is lost says so.
pub tail_missed : (q t x : ℕ) (v w : View) → v.stage ≡ Plain → x ≢ 2 * t → MissesTail v q t x w → GoesOn v w (tail_moved q t x v.notes.scan.current) × (w.stage ≡ Plain) × TailHasMoved (tail_moved q t x v.notes.scan.current) × (¬ IsWhole v)
tail_missed q t x v w plain other m =
    let goes = goes_met v w (tail_moved q t x v.notes.scan.current) v.notes v.stage m.left in
    let stage : w.stage ≡ Plain = ap (λ (z : View). z.stage) m.left ∙ plain in
    ⊎_elim
    (λ (even : x % 2 ≡ 0).
    let above = m.above (x / 2) (omega arith) in
    (goes, stage, (t, x / 2, above.0, subst (λ (n : ℕ). Contains (cond (eqb n 0) (TailMoved t (x / 2) ∷ []) (closed_current q v.notes.scan.current)) (TailMoved t (x / 2))) (sym even) (Contains-push [] (TailMoved t (x / 2)))), above.1))
    (λ (odd : x % 2 ≢ 0).
    let closed = m.closed (x / 2) (omega arith) in
    let away = closed.1 (ap keeps_closed plain) in
    absurd (plain_away (sym plain ∙ away.0)))
    (cases_eq (x % 2) 0)
  where
    plain_away : Plain ≡ Away → ⊥
    plain_away e = true≢false (ap has_turn e)

-- The entry.

pub made_enters : (v w : View) (e : EntryMark) (counts : Tally → Type 0) (hand : Hand) → Enters v e counts hand w → Made v e counts w
made_enters v w e counts hand h = subst (λ (z : View). Made v e counts z) (sym h.left) record {
  object = refl;
  callers = refl;
  caller = refl;
  held = refl;
  joint = refl;
  window = refl;
  made = refl;
  before = h.before;
  seen = h.seen;
  lawful = h.lawful;
  tally = h.counted;
  read = [];
  met = sym (append-nil v.met);
}

-- the same from an earlier point of the call
pub made_after : (v w u : View) (first : List Obstacle) (e : EntryMark) (counts : Tally → Type 0) → GoesOn v w first → Made w e counts u → Made v e counts u
made_after v w u first e counts g n = let k = g.keeps in record {
  object = n.object ∙ k.object;
  callers = n.callers ∙ k.callers;
  caller = n.caller ∙ k.caller;
  held = n.held ∙ k.held;
  joint = n.joint;
  window = n.window ∙ k.window;
  made = n.made ∙ counted_goes v w first g;
  before = n.before;
  seen = subst (λ (z : List Bool × List EntryMark). SeesEntry z.0 z.1 n.before e u.seen) (λ i. (k.held i, k.seen i)) n.seen;
  lawful = subst (λ (z : Object × ℕ). IsLawful number_priority z.0 z.1 u.seen) (λ i. (k.object i, k.callers i)) n.lawful;
  tally = n.tally;
  read = first ++ n.read;
  met = met_on first n.read v.met w.met u.met k.met n.met;
}

-- and at a later one
pub made_then : (v w u : View) (second : List Obstacle) (e : EntryMark) (counts : Tally → Type 0) → Made v e counts w → Keeps w u second → Made v e counts u
made_then v w u second e counts n k = record {
  object = k.object ∙ n.object;
  callers = k.callers ∙ n.callers;
  caller = k.caller ∙ n.caller;
  held = k.held ∙ n.held;
  joint = k.joint ∙ n.joint;
  window = k.window ∙ n.window;
  made = k.made ∙ n.made;
  before = n.before;
  seen = subst (λ (z : List EntryMark). SeesEntry v.held v.seen n.before e z) (sym k.seen) n.seen;
  lawful = subst (λ (z : List EntryMark). IsLawful number_priority v.object v.callers z) (sym k.seen) n.lawful;
  tally = n.tally;
  read = n.read ++ second;
  met = met_on n.read second v.met w.met u.met n.met k.met;
}

pub made_counts : (v w : View) (e : EntryMark) (counts others : Tally → Type 0) → ((t : Tally) → counts t → others t) → Made v e counts w → Made v e others w
made_counts v w e counts others so n = record { object = n.object; callers = n.callers; caller = n.caller; held = n.held; joint = n.joint; window = n.window; made = n.made; before = n.before; seen = n.seen; lawful = n.lawful; tally = so (tally_of n.before) n.tally; read = n.read; met = n.met }

-- The end.

same_pass : (p q : QueueView) → q.table ≡ p.table → HasNumber p.view.held p.view.caller → q.view.object ≡ p.view.object → q.view.callers ≡ p.view.callers → q.view.caller ≡ p.view.caller → q.view.held ≡ p.view.held → IsSamePass (pass_of p) (pass_of q)
same_pass p q table own object callers caller held = record { table = table; object = object; callers = callers; caller = caller; held = held; own = subst (λ (z : List Bool × ℕ). HasNumber z.0 z.1) (λ i. (sym held i, sym caller i)) own }

-- the pass is of the same queue still
pub still_of : (queue : QueueShape) (p q : QueueView) → IsOf queue p → q.table ≡ p.table → q.view.object ≡ p.view.object → q.view.callers ≡ p.view.callers → IsOf queue q
still_of queue p q of table object callers = (table ∙ of.0, object ∙ of.1, callers ∙ of.2)

-- the entry was made
pub made_ends : (p q : QueueView) (w : View) (read : List Obstacle) (call : CallMark) (reply : ReplyMark) (counts : Tally → Type 0) (receipt : Receipt) → Walks p.view w read → Made w (entry w.caller call reply) counts q.view → q.table ≡ p.table → HasNumber p.view.held p.view.caller → (¬ HasNoCallLeft p)
    → ((t : Tally) → counts t → IsQueueReceipt (first_len_in p.view.object) call reply t receipt) → MakesEntry p q (entry p.view.caller call reply) receipt
made_ends p q w read call reply counts receipt a n table own below receipt_is =
    let made : q.view.made ≡ raised p.view.made p.view.caller = n.made ∙ a.counts in record {
      below_limit = below;
      before = n.before;
      ends = record {
        same = same_pass p q table own (n.object ∙ a.object) (n.callers ∙ a.callers) (n.caller ∙ a.caller) (n.held ∙ a.held);
        seen = subst (λ (z : (List Bool × List EntryMark) × ℕ). SeesEntry z.0.0 z.0.1 n.before (entry z.1 call reply) q.view.seen) (λ i. ((a.held i, a.seen i), a.caller i)) n.seen;
        lawful = subst (λ (z : Object × ℕ). IsLawful number_priority z.0 z.1 q.view.seen) (λ i. (a.object i, a.callers i)) n.lawful;
        counted = (1, omega arith, made);
        met = (read ++ n.read, met_on read n.read p.view.met w.met q.view.met a.met n.met);
      };
      receipt_is = receipt_is (tally_of n.before) n.tally;
      counted = made;
    }

none_ends : (p q : QueueView) (again : QueueAgain) (read : List Obstacle) (n : ℕ) → IsCountOf again n → Counts n (pass_of p) (pass_of q) → Walks p.view q.view read → q.table ≡ p.table → HasNumber p.view.held p.view.caller → (¬ HasNoCallLeft p) → MakesNone p q again read
none_ends p q again read n few made a table own below = record {
  below_limit = below;
  same = same_pass p q table own a.object a.callers a.caller a.held;
  no_entry = record {
    seen = ([], a.seen ∙ sym (append-nil p.view.seen), tt);
    lawful = subst (λ (z : List EntryMark). IsLawful number_priority p.view.object p.view.callers z) (sym a.seen) a.lawful;
  };
  counted = (n, few, made);
  met = a.met;
}

pub not_counted : (made : List ℕ) (c : ℕ) → made ≡ set made c (get_or made c 0 + 0)
not_counted [] c = refl
not_counted (x ∷ made) zero = ap (λ (n : ℕ). n ∷ made) (omega arith)
not_counted (x ∷ made) (suc c) = ap (λ (l : List ℕ). x ∷ l) (not_counted made c)

-- none was made, without the turn
pub free_ends : (p q : QueueView) (again : QueueAgain) (read : List Obstacle) → IsCountOf again 0 → WalksFree p.view q.view read → q.table ≡ p.table → HasNumber p.view.held p.view.caller → (¬ HasNoCallLeft p) → MakesNone p q again read
free_ends p q again read none a = none_ends p q again read 0 none (a.made ∙ not_counted p.view.made p.view.caller) a.walks

-- and with it
pub paid_ends : (p q : QueueView) (again : QueueAgain) (read : List Obstacle) → IsCountOf again 1 → WalksPaid p.view q.view read → q.table ≡ p.table → HasNumber p.view.held p.view.caller → (¬ HasNoCallLeft p) → MakesNone p q again read
paid_ends p q again read one a = none_ends p q again read 1 one a.made a.walks
