-- Looks into a window.
use Rattle.std.proofs.Common.{◌≡◌, ◌≢◌, ℕ, zero, suc, ◌+◌, ◌-◌, ◌*◌, ◌/◌, ◌%◌, ◌<◌, ◌≤◌, ◌⊎◌, ⊎_elim, ◌++◌, Bool, true, false, cond, eqb, ltb, leb, ◌&&◌, List, [], ◌∷◌, length, map, drop, slice_get, sym, refl, true≢false, ap, ◌∙◌, subst, arith, eq-eqb, ne_eqb}
use Rattle.std.proofs.lemmas.Bool.{le-leb, lt-ltb, eqb-true, eqb-false}
use Rattle.std.proofs.lemmas.List.Elements.{Contains-push, Contains-append_right}
use Rattle.std.proofs.lemmas.List.{length-map}
use Rattle.std.specs.Prelude.{Option, None, Some, IfSome, Contains}
use Rattle.ho_base.specs.Marks.{Mark, number_of}
use Rattle.ho_model.specs.declared.marks.EntryMark.{EntryMark}
use Rattle.ho_model.specs.Enqueues.{values_of, putters_of}
use Rattle.passes.specs.Numbers.{HasNumber, HasAll}
use Rattle.seg_rule.specs.declared.word.QueueWord.{QueueWord}
use Rattle.seg_rule.specs.declared.word.QueueWord.TheVariants.{Head, Turn, Current, First, Tail, Start, Length, Observers, Done, Next, Segment, Number, Item}
use Rattle.seg_rule.specs.declared.view.View.{View}
use Rattle.seg_rule.specs.declared.view.Notes.{Notes}
use Rattle.seg_rule.specs.declared.view.Scan.{Scan}
use Rattle.seg_rule.specs.declared.view.Window as view
use Rattle.seg_rule.specs.declared.view.Obstacle.{Obstacle}
use Rattle.seg_rule.specs.declared.view.Obstacle.TheVariants.{Unpublished}
use Rattle.seg_rule.specs.declared.view.Hand.TheVariants.{Nothing}
use Rattle.seg_rule.specs.declared.view.Stage.{Stage}
use Rattle.seg_rule.specs.declared.view.Stage.TheVariants.{Away}
use Rattle.seg_rule.specs.Loads.{begun, told, begins_call, at_first, stage_after, hand_after, has_turn, is_front_slot, is_free_by, is_at_rest, is_inside, lies_at, met_if, obstacles, window_obstacles}
use Rattle.seg_rule.specs.Plays.{Reads}
use Rattle.seg_rule.specs.Tells.{Told, TellsWindow, SeesPutter, sees_in_flight, is_idle, places_in, place_count}
use Rattle.seg_rule.specs.Steps.{blank}
use Rattle.seg_rule.specs.Snapshots.{MayEnd, rest_of, ended, without_first}
use Rattle.seg_rule.specs.Passes.{QueueView}
use Rattle.queue_tries.specs.Walks.{Keeps}
use Rattle.queue_tries.specs.Snaps.{beside}
use Rattle.queue_tries.specs.Windows.{HasOpened, IsPutByOther, ReadsOn, Gives, items_of, given_of}
use Rattle.queue_tries.specs.declared.answers.Next.TheVariants as next
use Rattle.queue_tries.specs.Reading.{LooksInto, HoldsFrom, LeavesFirst, IsAtPlace, LiesAt, IsShown, SeesNumber, ReadsAt, Stays}
use Rattle.queue_tries.specs.declared.answers.Window.{Window}
use Rattle.queue_tries.proofs.Walks.{reads_told, no_hand, keeps_none, keeps_on}

-- A load.

no_stage : (w : QueueWord) (x : ℕ) (o : Notes) → stage_after w x o Away ≡ Away
no_stage Head x o = refl
no_stage Turn x o = refl
no_stage Current x o = refl
no_stage First x o = refl
no_stage (Tail p) x o = refl
no_stage (Start p) x o = refl
no_stage (Length p) x o = refl
no_stage (Observers p) x o = refl
no_stage (Done p) x o = refl
no_stage (Next p) x o = refl
no_stage (Segment p) x o = refl
no_stage (Number p i) x o = refl
no_stage (Item p i) x o = refl

no_front : (p i : ℕ) (h : Option ℕ) (o : Scan) → is_front_slot false p i h o ≡ false
no_front p i None o = refl
no_front p i (Some h) o = refl

and_false : (b : Bool) → (b && false) ≡ false
and_false true = refl
and_false false = refl

not_seen : (w : QueueWord) (x : ℕ) (v : View) → v.stage ≡ Away → sees_in_flight w x v ≡ false
not_seen Head x v away = refl
not_seen Turn x v away = refl
not_seen Current x v away = refl
not_seen First x v away = refl
not_seen (Tail p) x v away = refl
not_seen (Start p) x v away = refl
not_seen (Length p) x v away = refl
not_seen (Observers p) x v away = refl
not_seen (Done p) x v away = refl
not_seen (Next p) x v away = refl
not_seen (Segment p) x v away = refl
not_seen (Number p i) x v away = ap (λ (s : Stage). is_idle v.hand && (is_front_slot (has_turn s) p i v.notes.head v.notes.scan && is_free_by v.notes.head x)) away
    ∙ (ap (λ (b : Bool). is_idle v.hand && (b && is_free_by v.notes.head x)) (no_front p i v.notes.head v.notes.scan) ∙ and_false (is_idle v.hand))
not_seen (Item p i) x v away = refl

begins_none : (w : QueueWord) (v : View) → begins_call w ≡ false → begun w v ≡ v
begins_none w v none = ap (λ (b : Bool). cond (b && is_at_rest v.hand v.stage v.window) (record v { notes = blank; paid = false }) v) none

pub looks_into : (w : QueueWord) (x : ℕ) (v u : View) → begins_call w ≡ false → v.hand ≡ Nothing → v.stage ≡ Away → Reads w x v u → LooksInto w x v u
looks_into w x v u none hand away r =
    let same = begins_none w v none in let left : u ≡ told w x v = reads_told w x v u r same (not_seen w x v away) in record {
      told_is = subst (λ (z : View). Told w x z) same r.told;
      tells = r.window;
      left = left;
      keeps = subst (λ (z : View). Keeps (beside v) (beside z) (window_obstacles w x v.window (obstacles v.stage w x v.notes))) (sym left) record {
        object = refl;
        callers = refl;
        caller = refl;
        held = refl;
        seen = refl;
        made = refl;
        joint = refl;
        window = refl;
        met = refl;
      };
      hand = ap (λ (z : View). z.hand) left ∙ (ap (hand_after w x) hand ∙ no_hand w x);
      stage = ap (λ (z : View). z.stage) left ∙ (ap (stage_after w x v.notes) away ∙ no_stage w x v.notes);
    }

-- what a load of the first place notes of it
noted_first : (f : view.Window → view.Window) (o : view.Window) (first : ℕ) → o.first ≡ first → at_first f first (Some o) ≡ Some (f o)
noted_first f o first is = ap (λ (b : Bool). cond b (Some (f o)) (Some o)) (eq-eqb o.first first is)

-- The first place is let go.

module _ (first last word next : ℕ) (v u : View) (h : HoldsFrom first last v) (other : first ≢ last) (l : LooksInto (Next first) word v u) (same : next ≡ word) where
  abbrev o' : view.Window
  o' = record h.seen { after = Some next }

  there : u.window ≡ Some o'
  there = ap (λ (z : View). z.window) l.left ∙ (ap (at_first (λ (o : view.Window). record o { after = Some word }) first) h.there
      ∙ (noted_first (λ (o : view.Window). record o { after = Some word }) h.seen first h.first_is ∙ ap (λ (n : ℕ). Some (record h.seen { after = Some n })) (sym same)))

  pub may_end : MayEnd u first
  may_end = record { seen = o'; there = there; first = h.first_is; next = λ _. (next, refl) }

  apart : h.seen.first ≢ h.seen.last
  apart e = other (sym h.first_is ∙ (e ∙ h.last_is))

  pub leaves_first : (w : View) → w ≡ without_first u → LeavesFirst first last v next w
  leaves_first w is = record {
    keeps = subst (λ (z : View). Keeps (beside v) z []) (sym (ap beside is)) l.keeps;
    seen = h.seen;
    there = h.there;
    left = ap (λ (z : View). z.window) is ∙ (ap ended there ∙ ap (λ (b : Bool). cond b None (rest_of o' (Some next))) (ne_eqb h.seen.first h.seen.last apart));
    more = (subst (λ (z : Option view.Window). IfSome z (TellsWindow (Next first) word v)) h.there l.tells).more (ap Next (sym h.first_is)) apart;
    last_is = h.last_is;
    hand = ap (λ (z : View). z.hand) is ∙ l.hand;
    stage = ap (λ (z : View). z.stage) is ∙ l.stage;
  }

-- The window goes on.

pub holds_from : (p : QueueView) (a : Window) → HasOpened p a → HoldsFrom a.first a.last p.view
holds_from p a h = record { seen = h.window.seen; there = h.window.there_is; first_is = h.window.first; last_is = h.window.last; hand = h.hand; stage = h.stage }

-- with another first place
abbrev pub goes_opened : (p q : QueueView) (a : Window) (n : ℕ) (o : view.Window) (read : List Obstacle) → HasOpened p a → Keeps (beside p.view) (beside q.view) read → q.view.hand ≡ Nothing → q.view.stage ≡ Away
    → q.view.window ≡ Some o → o.first ≡ n → n < place_count p.view → o.last ≡ a.last → o.tail ≡ a.tail → o.head ≤ a.at → HasOpened q (record a { first = n })
goes_opened p q a n o read h k hand stage there first near last tail from = record {
  window = record {
    seen = o;
    there_is = there;
    first = first;
    last = last;
    tail = tail;
    inside = subst (λ (m : ℕ). (n < m) × (a.last < m)) (λ i. places_in (sym k.object i) (sym k.callers i)) (near, h.window.inside.1);
    from = (from, h.window.from.1);
    until = h.window.until;
    all = ap (λ (l : List EntryMark). length (values_of l)) k.seen ∙ h.window.all;
  };
  hand = hand;
  stage = stage;
  joint = k.joint ∙ h.joint;
}

-- The next position lies in the last place, or below the end of the first one.

pub at_last : (p : QueueView) (a : Window) → HasOpened p a → a.first ≡ a.last → IsAtPlace p a
at_last p a h same = record {
  opened = h;
  inside = ap (λ (b : Bool). is_inside b h.window.seen.ends a.at) (eq-eqb h.window.seen.first h.window.seen.last (h.window.first ∙ (same ∙ sym h.window.last)));
}

module _ (p q : QueueView) (a : Window) (x : ℕ) (h : HasOpened p a) (other : a.first ≢ a.last) (l : LooksInto (Tail a.first) x p.view q.view) where
  abbrev ended_at : view.Window
  ended_at = record h.window.seen { ends = Some (x / 2) }

  end_noted : q.view.window ≡ Some ended_at
  end_noted = ap (λ (z : View). z.window) l.left ∙ (ap (at_first (λ (o : view.Window). record o { ends = Some (x / 2) }) a.first) h.window.there_is ∙ noted_first (λ (o : view.Window). record o { ends = Some (x / 2) }) h.window.seen a.first h.window.first)

  pub at_place : a.at < x / 2 → IsAtPlace q a
  at_place low = record {
    opened = goes_opened p q a a.first ended_at (window_obstacles (Tail a.first) x p.view.window (obstacles p.view.stage (Tail a.first) x p.view.notes)) h l.keeps l.hand l.stage end_noted h.window.first h.window.inside.0 h.window.last h.window.tail h.window.from.0;
    inside = ap (λ (b : Bool). is_inside b (Some (x / 2)) a.at) (ne_eqb h.window.seen.first h.window.seen.last (λ e. other (sym h.window.first ∙ (e ∙ h.window.last)))) ∙ lt-ltb a.at (x / 2) low;
  }

  pub holds_ended : HoldsFrom a.first a.last q.view
  holds_ended = record { seen = ended_at; there = end_noted; first_is = h.window.first; last_is = h.window.last; hand = l.hand; stage = l.stage }

-- What stays.

pub stays_none : (v : View) → Stays v v
stays_none v = ([], keeps_none (beside v))

pub stays_on : (v w u : View) → Stays v w → Stays w u → Stays v u
stays_on v w u a b = (a.0 ++ b.0, keeps_on (beside v) (beside w) (beside u) a.0 b.0 a.1 b.1)

-- The slot of the next position.

all_true : (a b c d : Bool) → a ≡ true → b ≡ true → c ≡ true → d ≡ true → (a && (b && (c && d))) ≡ true
all_true a b c d e f g h i = e i && (f i && (g i && h i))

pub lies_measured : (p q : QueueView) (a : Window) (x slot : ℕ) → IsAtPlace p a → a.at < a.tail → LooksInto (Length a.first) x p.view q.view → slot ≡ a.at % x → LiesAt q a slot
lies_measured p q a x slot t low l is =
    let h = t.opened in let o : view.Window = record h.window.seen { length = Some x } in record {
      opened = goes_opened p q a a.first o (window_obstacles (Length a.first) x p.view.window (obstacles p.view.stage (Length a.first) x p.view.notes)) h l.keeps l.hand l.stage
          (ap (λ (z : View). z.window) l.left ∙ (ap (at_first (λ (z : view.Window). record z { length = Some x }) a.first) h.window.there_is ∙ noted_first (λ (z : view.Window). record z { length = Some x }) h.window.seen a.first h.window.first))
          h.window.first h.window.inside.0 h.window.last h.window.tail h.window.from.0;
      lies = all_true (leb h.window.seen.head a.at) (ltb a.at h.window.seen.tail) (eqb (a.at % x) slot) (is_inside (eqb h.window.seen.first h.window.seen.last) h.window.seen.ends a.at)
          (le-leb h.window.seen.head a.at h.window.from.0) (lt-ltb a.at h.window.seen.tail (subst (λ (n : ℕ). a.at < n) (sym h.window.tail) low)) (eq-eqb (a.at % x) slot (sym is)) t.inside;
    }

-- Its number.

module _ (p q : QueueView) (a : Window) (slot x : ℕ) (t : LiesAt p a slot) (low : a.at < a.tail) (l : LooksInto (Number a.first slot) x p.view q.view) where
  abbrev here : HasOpened p a
  here = t.opened

  abbrev shown_at : view.Window
  shown_at = record here.window.seen { shown = Some (slot, x) }

  abbrev met : List Obstacle
  met = obstacles p.view.stage (Number a.first slot) x p.view.notes

  tells : (x ≡ 2 * a.at + 1) ⊎ ((x ≡ 2 * a.at) × SeesPutter p.view a.at)
  tells = (subst (λ (z : Option view.Window). IfSome z (TellsWindow (Number a.first slot) x p.view)) here.window.there_is l.tells).number slot a.at (ap (λ (n : ℕ). Number n slot) (sym here.window.first)) here.hand t.lies

  abbrev opened_still : HasOpened q a
  opened_still = goes_opened p q a a.first shown_at (window_obstacles (Number a.first slot) x p.view.window met) here l.keeps l.hand l.stage
      (ap (λ (z : View). z.window) l.left ∙ (ap (at_first (λ (z : view.Window). record z { shown = Some (slot, x) }) a.first) here.window.there_is ∙ noted_first (λ (z : view.Window). record z { shown = Some (slot, x) }) here.window.seen a.first here.window.first))
      here.window.first here.window.inside.0 here.window.last here.window.tail here.window.from.0

  met_there : x ≡ 2 * a.at → Contains (window_obstacles (Number a.first slot) x p.view.window met) (Unpublished a.first a.at (2 * a.at))
  met_there is =
      let o = here.window.seen in let half : x / 2 ≡ a.at = omega arith in let even : x % 2 ≡ 0 = omega arith in
      let found : (eqb o.first a.first && (eqb (x % 2) 0 && lies_at o slot (x / 2))) ≡ true = (λ i. eq-eqb o.first a.first here.window.first i && (eq-eqb (x % 2) 0 even i && (ap (lies_at o slot) half ∙ t.lies) i)) in
      subst (λ (z : Option view.Window). Contains (window_obstacles (Number a.first slot) x z met) (Unpublished a.first a.at (2 * a.at))) (sym here.window.there_is)
      (Contains-append_right met (met_if (eqb o.first a.first && (eqb (x % 2) 0 && lies_at o slot (x / 2))) (Unpublished a.first (x / 2) x)) (Unpublished a.first a.at (2 * a.at))
      (subst (λ (z : Bool × (ℕ × ℕ)). Contains (met_if z.0 (Unpublished a.first z.1.0 z.1.1)) (Unpublished a.first a.at (2 * a.at))) (λ i. (sym found i, (sym half i, sym is i))) (Contains-push [] (Unpublished a.first a.at (2 * a.at)))))

  pub sees_number : (b : Bool) → eqb (x % 2) 1 ≡ b → SeesNumber p a slot q b
  sees_number true odd = (
    record {
      opened = opened_still;
      lies = t.lies;
      shown = ⊎_elim (λ (is : x ≡ 2 * a.at + 1). ap (λ (n : ℕ). Some (slot, n)) is) (λ (is : (x ≡ 2 * a.at) × SeesPutter p.view a.at). absurd (let one = eqb-true (x % 2) 1 odd in let e = is.0 in omega arith)) tells;
    },
    (window_obstacles (Number a.first slot) x p.view.window met, l.keeps),
  )
  sees_number false even =
      let free : (x ≡ 2 * a.at) × SeesPutter p.view a.at = ⊎_elim (λ (is : x ≡ 2 * a.at + 1). absurd (let none = eqb-false (x % 2) 1 even in none (let one : x % 2 ≡ 1 = omega arith in one))) (λ (is : (x ≡ 2 * a.at) × SeesPutter p.view a.at). is) tells in
      let s = free.1 in (
        opened_still,
        (window_obstacles (Number a.first slot) x p.view.window met, l.keeps, met_there free.0, record { putter = s.putter; enqueued = s.enqueued (subst (λ (n : ℕ). a.at < n) (sym here.window.all) low); not_held = s.not_held; not_whole = s.not_whole }),
      )

-- And its item.
pub item_read : (p q : QueueView) (a : Window) (slot x : ℕ) → IsShown p a slot → a.at < a.tail → LooksInto (Item a.first slot) x p.view q.view → ReadsAt p a q (Some x)
item_read p q a slot x t low l =
    let h = t.opened in let read = window_obstacles (Item a.first slot) x p.view.window (obstacles p.view.stage (Item a.first slot) x p.view.notes) in (
      goes_opened p q a a.first h.window.seen read h l.keeps l.hand l.stage (ap (λ (z : View). z.window) l.left ∙ h.window.there_is) h.window.first h.window.inside.0 h.window.last h.window.tail h.window.from.0,
      (read, l.keeps),
      (subst (λ (z : Option view.Window). IfSome z (TellsWindow (Item a.first slot) x p.view)) h.window.there_is l.tells).item slot a.at (ap (λ (n : ℕ). Item n slot) (sym h.window.first)) t.lies t.shown (subst (λ (n : ℕ). a.at < n) (sym h.window.all) low),
    )

-- A look as a whole.

put_before : (v w : View) (read : List Obstacle) (position : ℕ) → Keeps (beside v) (beside w) read → IsPutByOther w position → IsPutByOther v position
put_before v w read position k o = record {
  putter = o.putter;
  enqueued = ap (λ (l : List EntryMark). slice_get (putters_of l) position) (sym k.seen) ∙ o.enqueued;
  not_held = subst (λ (held : List Bool). ¬ HasNumber held o.putter) k.held o.not_held;
  not_whole = subst (λ (z : ℕ × List Bool). ¬ HasAll z.0 z.1) (λ i. (k.callers i, k.held i)) o.not_whole;
}

pub reads_before : (p q r : QueueView) (a : Window) (item : Option ℕ) → Stays p.view q.view → ReadsAt q a r item → ReadsAt p a r item
reads_before p q r a (Some item) s m = (m.0, stays_on p.view q.view r.view s m.1, ap (λ (l : List EntryMark). slice_get (values_of l) a.at) (sym s.1.seen) ∙ m.2)
reads_before p q r a None s m = let n = m.1 in (
  m.0,
  (
    s.0 ++ n.0,
    keeps_on (beside p.view) (beside q.view) (beside r.view) s.0 n.0 s.1 n.1,
    Contains-append_right s.0 n.0 (Unpublished a.first a.at (2 * a.at)) n.2,
    put_before p.view q.view s.0 a.at s.1 n.3,
  ),
)

-- What a look at the next item comes to.

length_left : (h : ℕ) (l : List Mark) → length (map number_of (drop h l)) ≡ length l - h
length_left zero l = length-map l number_of ∙ (omega arith)
length_left (suc h) [] = omega arith
length_left (suc h) (x ∷ l) = length_left h l ∙ (omega arith)

abbrev is_none : Option Mark → Bool
is_none None = true
is_none (Some z) = false

no_item : (n y : ℕ) → slice_get [] n ≡ Some (y ∷ []) → ⊥
no_item n y is = true≢false (ap is_none is)

at_first_left : (n : ℕ) (l : List Mark) (y : ℕ) → slice_get l n ≡ Some (y ∷ []) → slice_get (map number_of l) n ≡ Some y
at_first_left n [] y is = absurd (no_item n y is)
at_first_left zero (x ∷ l) y is = ap (λ (o : Option Mark). number_in o) is
  where
    number_in : Option Mark → Option ℕ
    number_in None = None
    number_in (Some z) = Some (number_of z)
at_first_left (suc n) (x ∷ l) y is = at_first_left n l y is

at_left : (h n : ℕ) (l : List Mark) (y : ℕ) → slice_get l (h + n) ≡ Some (y ∷ []) → slice_get (map number_of (drop h l)) n ≡ Some y
at_left zero n l y is = at_first_left n l y (subst (λ (k : ℕ). slice_get l k ≡ Some (y ∷ [])) (let e : 0 + n ≡ n = omega arith in e) is)
at_left (suc h) n [] y is = absurd (no_item (suc h + n) y is)
at_left (suc h) n (x ∷ l) y is = at_left h n l y (subst (λ (k : ℕ). slice_get (x ∷ l) k ≡ Some (y ∷ [])) (let e : suc h + n ≡ suc (h + n) = omega arith in e) is)

reads_on : (p q : QueueView) (read : List Obstacle) → q.table ≡ p.table → Keeps (beside p.view) (beside q.view) read → ReadsOn p q read
reads_on p q read same k i = record { table = same i; object = k.object i; callers = k.callers i; caller = k.caller i; held = k.held i; made = k.made i; seen = k.seen i; met = k.met i }

same_items : (p q : QueueView) (a b : Window) (read : List Obstacle) → Keeps (beside p.view) (beside q.view) read → b.head ≡ a.head → items_of q.view.seen b ≡ items_of p.view.seen a
same_items p q a b read k same i = map number_of (drop (same i) (values_of (k.seen i)))

-- none is left
pub gives_end : (p : QueueView) (a : Window) → HasOpened p a → a.at ≡ a.tail → Gives p a p a next.End
gives_end p a h e = (refl, refl, (let n = length_left a.head (values_of p.view.seen) in let all = h.window.all in omega arith))

-- the items that are left, where the next position is below the tail
some_left : (p : QueueView) (a : Window) → HasOpened p a → a.at < a.tail → given_of a < length (items_of p.view.seen a)
some_left p a h low = let n = length_left a.head (values_of p.view.seen) in let all = h.window.all in let from = h.window.from.1 in omega arith

module _ (p q r : QueueView) (a b : Window) (h : HasOpened p a) (low : a.at < a.tail) (same : r.table ≡ p.table) (kept : b ≡ record a { first = b.first }) (s : Stays p.view q.view) where
  pub gives_none : ReadsAt q b r None → Gives p a r b next.InFlight
  gives_none m = let n = reads_before p q r b None s m in let k = n.1 in (
    k.0,
    reads_on p r k.0 same k.1,
    (same_items p r a b k.0 k.1 (ap (λ (z : Window). z.head) kept), (let head : b.head ≡ a.head = ap (λ (z : Window). z.head) kept in let at : b.at ≡ a.at = ap (λ (z : Window). z.at) kept in omega arith)),
    some_left p a h low,
    (b.first, subst (λ (n : ℕ). Contains k.0 (Unpublished b.first n (2 * n))) (ap (λ (z : Window). z.at) kept) k.2),
    subst (IsPutByOther p.view) (ap (λ (z : Window). z.at) kept) k.3,
  )

  pub gives_item : (y more_at : ℕ) → more_at ≡ a.at + 1 → ReadsAt q b r (Some y) → Gives p a r (record b { at = more_at }) (next.Item y)
  gives_item y more_at more m = let n = reads_before p q r b (Some y) s m in let k = n.1 in let c : Window = record b { at = more_at } in (
    k.0,
    reads_on p r k.0 same k.1,
    (same_items p r a c k.0 k.1 (ap (λ (z : Window). z.head) kept), (let head : b.head ≡ a.head = ap (λ (z : Window). z.head) kept in let from = h.window.from.1 in omega arith)),
    at_left a.head (a.at - a.head) (values_of p.view.seen) y (subst (λ (z : ℕ). slice_get (values_of p.view.seen) z ≡ Some (y ∷ [])) (let at : b.at ≡ a.at = ap (λ (z : Window). z.at) kept in let from = h.window.from.1 in (let e : b.at ≡ a.head + (a.at - a.head) = omega arith in e)) n.2),
  )

-- one more was given
pub goes_on_opened : (p : QueueView) (a : Window) (next : ℕ) → HasOpened p a → a.at < a.tail → next ≡ a.at + 1 → HasOpened p (record a { at = next })
goes_on_opened p a next h low more = record {
  window = record {
    seen = h.window.seen;
    there_is = h.window.there_is;
    first = h.window.first;
    last = h.window.last;
    tail = h.window.tail;
    inside = h.window.inside;
    from = (let x = h.window.from in let y = x.0 in omega arith, let x = h.window.from in let y = x.1 in omega arith);
    until = (omega arith);
    all = h.window.all;
  };
  hand = h.hand;
  stage = h.stage;
  joint = h.joint;
}
