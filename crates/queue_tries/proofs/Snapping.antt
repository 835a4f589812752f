-- The parts of a snapshot put together.
use Rattle.std.proofs.Common.{◌≡◌, ◌≢◌, ℕ, suc, ◌-◌, ◌<◌, ◌≤◌, ◌++◌, Bool, true, false, cond, eqb, List, [], ◌∷◌, length, map, drop, inr, sym, refl, ap, ◌∙◌, subst, arith, append-nil}
use Rattle.std.specs.Prelude.{Option, Some, IfSome}
use Rattle.ho_base.specs.Marks.{Mark, number_of, number_priority}
use Rattle.ho_model.specs.declared.marks.EntryMark.{EntryMark}
use Rattle.ho_model.specs.declared.marks.CallMark.TheVariants.{Snap}
use Rattle.ho_model.specs.declared.marks.ReplyMark.TheVariants.{Numbers}
use Rattle.ho_model.specs.declared.marks.Tally.{Tally}
use Rattle.ho_model.specs.declared.objects.Object.{Object}
use Rattle.ho_model.specs.declared.objects.Object.TheVariants.{Queue}
use Rattle.ho_model.specs.Entries.{entry}
use Rattle.ho_model.specs.Histories.{IsLegal}
use Rattle.ho_model.specs.QueueReceipts.{IsLook}
use Rattle.ho_model.specs.Enqueues.{values_of}
use Rattle.ho_model.proofs.Enqueues.{values_push}
use Rattle.ho_model.proofs.Folds.{tally_push}
use Rattle.ho_model.proofs.Queues.{legal_counts}
use Rattle.passes.specs.Numbers.{HasNumber}
use Rattle.seg_rule.specs.declared.view.View.{View}
use Rattle.seg_rule.specs.declared.view.Window as view
use Rattle.seg_rule.specs.declared.view.Stage.{Stage}
use Rattle.seg_rule.specs.declared.view.Stage.TheVariants.{Away, Plain, Observing}
use Rattle.seg_rule.specs.declared.word.QueueWord.TheVariants.{Next}
use Rattle.seg_rule.specs.Loads.{told, at_first}
use Rattle.seg_rule.specs.Plays.{Reads}
use Rattle.seg_rule.specs.Tells.{TellsWindow}
use Rattle.seg_rule.specs.Passes.{QueueView}
use Rattle.seg_rule.specs.Steps.{no_scan, on_stage, entered}
use Rattle.seg_rule.specs.Snapshots.{MayObserve, Observes as observed, ObservesFrom, observing, first_of, window_over, Snaps, snap_of, numbers_from, tail_at, looked_window}
use Rattle.queue_tries.specs.Walks.{GoesOn, Made, WalksPaid}
use Rattle.queue_tries.specs.Tries.{HasNoCallLeft}
use Rattle.queue_tries.specs.Counts.{IsPaid, ReadsCurrent, ReadsOpen, Closes, CountsPaid}
use Rattle.queue_tries.specs.Windows.{WindowsOnce}
use Rattle.queue_tries.specs.declared.answers.Window.{Window}
use Rattle.queue_tries.specs.declared.answers.QueueOnce.{QueueOnce}
use Rattle.queue_tries.specs.declared.answers.QueueOnce.TheVariants.{Answer, Again, Spent}
use Rattle.queue_tries.specs.declared.answers.QueueAgain.TheVariants.{Lost, Turn, InFlight, NoPlace}
use Rattle.queue_tries.specs.Snaps.{beside, IsCounted, IsClosedAt, IsObserving, Observes, places_left, LooksAll, WindowsPaid}
use Rattle.queue_tries.proofs.Walks.{goes_met, goes_quiet, goes_on, made_ends, paid_ends, paid_goes, not_whole}
use Rattle.queue_tries.proofs.Counting.{counts_lost}

-- Places are observed.

-- a step that changes nothing but what is noted, how far the pass is with the turn, and the window
goes_beside : (v w : View) (s : Stage) (o : Option view.Window) → w ≡ record v { notes = no_scan v.notes; stage = s; window = o } → GoesOn (beside v) (beside w) []
goes_beside v w s o is = goes_quiet (beside v) (beside w) (no_scan v.notes) s (ap beside is)

pub observes_first : (current tail first : ℕ) (v w : View) → IsClosedAt current tail v → observed v first w → Observes v current tail first first w
observes_first current tail first v w closed o =
    let x : (b : ℕ) × (w ≡ observing v current tail b b first first) = subst (λ (z : Stage). ObservesFrom z v first w) closed.1 o in record {
      goes = goes_beside v w (Observing current tail x.0 x.0 first) (Some (window_over x.0 (suc x.0) first first)) x.1;
      at = record {
        seen = window_over x.0 (suc x.0) first first;
        segment = x.0;
        stage = ap (λ (z : View). z.stage) x.1;
        there = ap (λ (z : View). z.window) x.1;
        ends = refl;
        first_is = refl;
      };
    }

-- the note of the next place, in a window
noted_window : (b : Bool) (o : view.Window) (x : ℕ)
    → (n : view.Window) × (cond b (Some (record o { after = Some x })) (Some o) ≡ Some n) × (n.begin ≡ o.begin) × (n.end ≡ o.end) × (n.first ≡ o.first)
noted_window true o x = (record o { after = Some x }, refl, refl, refl, refl)
noted_window false o x = (o, refl, refl, refl, refl)

module _ (current tail first place x : ℕ) (v u : View) (at : IsObserving current tail first place v) (other : place ≢ current) (r : Reads (Next place) x v u) where
  left : u ≡ told (Next place) x v
  left = r.sees

  kept : (n : view.Window) × (cond (eqb at.seen.first place) (Some (record at.seen { after = Some x })) (Some at.seen) ≡ Some n) × (n.begin ≡ at.seen.begin) × (n.end ≡ at.seen.end) × (n.first ≡ at.seen.first)
  kept = noted_window (eqb at.seen.first place) at.seen x

  window_is : u.window ≡ Some kept.0
  window_is = ap (λ (z : View). z.window) left ∙ (ap (at_first (λ (o : view.Window). record o { after = Some x }) place) at.there ∙ kept.1)

  stage_is : u.stage ≡ Observing current tail at.seen.begin at.segment place
  stage_is = ap (λ (z : View). z.stage) left ∙ at.stage

  pub may_next : (next : ℕ) → next ≡ x → MayObserve u next
  may_next next same = inr record {
    current = current;
    tail = tail;
    segment = at.segment;
    place = place;
    seen = kept.0;
    stage = stage_is ∙ ap (λ (b : ℕ). Observing current tail b at.segment place) (sym kept.2);
    there = window_is;
    ends = kept.3 ∙ at.ends;
    other = other;
    next = ap (λ (z : View). z.notes.scan.next) left ∙ ap (λ (n : ℕ). Some (place, n)) (sym same);
  }

  numbered_below : at.segment < tail
  numbered_below = (subst (λ (z : Option view.Window). IfSome z (TellsWindow (Next place) x v)) at.there r.window).below current tail at.seen.begin at.segment place at.stage other

  module _ (next : ℕ) (w : View) (o : observed u next w) where
    w_is : w ≡ observing u current tail at.seen.begin (suc at.segment) (first_of u.window) next
    w_is = subst (λ (z : Stage). ObservesFrom z u next w) stage_is o

    pub observes_next : Observes v current tail first next w
    observes_next = record {
      goes = goes_on (beside v) (beside u) (beside w) [] [] (goes_met (beside v) (beside u) [] u.notes v.stage (ap beside left ∙ (λ i. record (beside (told (Next place) x v)) { notes = sym (ap (λ (z : View). z.notes) left) i })))
          (goes_beside u w (Observing current tail at.seen.begin (suc at.segment) next) (Some (window_over at.seen.begin (suc (suc at.segment)) (first_of u.window) next)) w_is);
      at = record {
        seen = window_over at.seen.begin (suc (suc at.segment)) (first_of u.window) next;
        segment = suc at.segment;
        stage = ap (λ (z : View). z.stage) w_is;
        there = ap (λ (z : View). z.window) w_is;
        ends = refl;
        first_is = ap first_of window_is ∙ (kept.4 ∙ at.first_is);
      };
    }

    pub fewer_left : places_left w.stage < places_left v.stage
    fewer_left = subst (λ (n : ℕ). n < places_left v.stage) (sym (ap (λ (z : View). places_left z.stage) w_is)) (subst (λ (n : ℕ). tail - suc at.segment < n) (sym (ap places_left at.stage)) (let b = numbered_below in omega arith))

-- The head is looked at.

module _ (current tail first head : ℕ) (v a b w : View) (at : IsObserving current tail first current v) (counted : IsCounted v) (s : Snaps v head a) (under : head ≤ tail_at v.stage) (b_is : b ≡ on_stage a Plain) (w_is : w ≡ on_stage b Away) where
  abbrev snap : EntryMark
  snap = snap_of v head s.before

  all_is : w ≡ record (entered v s.before snap v.hand) { stage = Away; window = looked_window head v.stage v.window }
  all_is = w_is ∙ ap (λ (z : View). on_stage z Away) (b_is ∙ ap (λ (z : View). on_stage z Plain) s.left)

  seen_is : w.seen ≡ s.before ++ snap ∷ []
  seen_is = ap (λ (z : View). z.seen) all_is

  values_are : values_of w.seen ≡ values_of s.before
  values_are = ap values_of seen_is ∙ (values_push s.before snap ∙ append-nil (values_of s.before))

  numbers_are : numbers_from head w.seen ≡ numbers_from head s.before
  numbers_are = ap (λ (l : List Mark). map number_of (drop head l)) values_are

  tail_is : tail_at v.stage ≡ tail
  tail_is = ap tail_at at.stage

  made_snap : Made (beside v) snap (λ t. (t.enqueued ≡ tail) × (t.taken ≡ head)) (beside w)
  made_snap = subst (λ (z : View). Made (beside v) snap (λ t. (t.enqueued ≡ tail) × (t.taken ≡ head)) (beside z)) (sym all_is) record {
    object = refl;
    callers = refl;
    caller = refl;
    held = refl;
    joint = refl;
    window = refl;
    made = refl;
    before = s.before;
    seen = s.seen;
    lawful = s.lawful;
    tally = (s.enqueued ∙ tail_is, s.taken);
    read = [];
    met = sym (append-nil v.met);
  }

  all_seen : (room first_len : ℕ) → v.object ≡ Queue room first_len → length (values_of w.seen) ≡ tail
  all_seen room first_len object =
      let counts = legal_counts number_priority room first_len (s.before ++ snap ∷ []) (subst (λ (o : Object). IsLegal number_priority o (s.before ++ snap ∷ [])) object s.lawful.0) in
      ap (λ (l : List EntryMark). length (values_of l)) seen_is ∙ (counts.counted ∙ (ap (λ (t : Tally). t.enqueued) (tally_push s.before snap) ∙ (s.enqueued ∙ tail_is)))

  pub looks_all : (room first_len : ℕ) → v.object ≡ Queue room first_len → LooksAll v current tail first head w
  looks_all room first_len object = record {
    made = subst (λ (l : List ℕ). Made (beside v) (entry v.caller Snap (Numbers l)) (λ t. (t.enqueued ≡ tail) × (t.taken ≡ head)) (beside w)) (sym numbers_are) made_snap;
    under = subst (λ (n : ℕ). head ≤ n) tail_is under;
    all = all_seen room first_len object;
    seen = record (window_over at.seen.begin at.seen.end at.seen.first current) { head = head; tail = tail };
    there = ap (λ (z : View). z.window) all_is ∙ (λ i. looked_window head (at.stage i) (at.there i));
    first_is = at.first_is;
    last_is = refl;
    head_is = refl;
    tail_is = refl;
    hand = ap (λ (z : View). z.hand) all_is ∙ counted.hand;
    stage = ap (λ (z : View). z.stage) all_is;
  }

-- The whole.

-- the tail had moved on, and the turn was given back
pub windows_lost : (v w u z z' : View) (place at : ℕ) → IsPaid v → ReadsCurrent v place w → ReadsOpen w place at u → Closes u place at z false → z' ≡ on_stage z Away → WindowsPaid v z' (Again Lost)
windows_lost v w u z z' place at paid b a k is =
    let c : CountsPaid v z' (Again Lost) = counts_lost v w u z z' place at b a k is in let g : GoesOn v z' c.0 = c.1 in
    (record { hand = g.hand ∙ paid.hand; stage = ap (λ (x : View). x.stage) is; window = g.keeps.window ∙ paid.window; joint = g.keeps.joint ∙ paid.joint }, c)

pub windows_end : (p q : QueueView) (w : View) (r : QueueOnce Window) → WalksPaid p.view w [] → q.table ≡ p.table → HasNumber p.view.held p.view.caller → (¬ HasNoCallLeft p) → WindowsPaid w q.view r → WindowsOnce p q r
windows_end p q w (Answer o receipt) a table own below m =
    let made = made_ends p (record q { view = beside q.view }) w [] Snap (Numbers (numbers_from o.head q.view.seen)) (λ t. IsLook t receipt) receipt a.walks m.0 table own below (λ t is. is) in (
      record { below_limit = made.below_limit; before = made.before; ends = made.ends; receipt_is = made.receipt_is; counted = made.counted },
      record { window = m.1.window; hand = m.1.hand; stage = m.1.stage; joint = m.0.joint },
      m.1.at,
    )
windows_end p q w (Again Lost) a table own below m = let k = m.1 in (m.0, (k.0, paid_ends p q Lost k.0 (omega arith) (paid_goes p.view w q.view [] k.0 a k.1) table own below, (k.2, not_whole p.view w [] a.walks k.3)))
windows_end p q w (Again Turn) a table own below k = absurd k
windows_end p q w (Again InFlight) a table own below k = absurd k
windows_end p q w (Again NoPlace) a table own below k = absurd k
windows_end p q w Spent a table own below k = absurd k
