-- The parts of a look into a window: v is the view before, and w after.
use Rattle.std.specs.Prelude.{◌≡◌, ℕ, suc, ◌+◌, ◌-◌, ◌*◌, ◌<◌, Bool, true, false, List, [], ◌∷◌, slice_get, eqb, Option, None, Some, IfSome, Contains}
use Rattle.ho_model.specs.Enqueues.{values_of}
use Rattle.seg_rule.specs.declared.word.QueueWord.{QueueWord}
use Rattle.seg_rule.specs.declared.view.View.{View}
use Rattle.seg_rule.specs.declared.view.Window as view
use Rattle.seg_rule.specs.declared.view.Obstacle.{Obstacle}
use Rattle.seg_rule.specs.declared.view.Obstacle.TheVariants.{Unpublished}
use Rattle.seg_rule.specs.declared.view.Hand.TheVariants.{Nothing}
use Rattle.seg_rule.specs.declared.view.Stage.TheVariants.{Away}
use Rattle.seg_rule.specs.Loads.{told, obstacles, window_obstacles, is_inside, lies_at}
use Rattle.seg_rule.specs.Snapshots.{window_over, left_from}
use Rattle.seg_rule.specs.Tells.{Told, TellsWindow}
use Rattle.seg_rule.specs.Passes.{QueueView}
use Rattle.queue_tries.specs.Walks.{Keeps}
use Rattle.queue_tries.specs.Snaps.{beside}
use Rattle.queue_tries.specs.Windows.{HasOpened, IsPutByOther}
use Rattle.queue_tries.specs.declared.answers.Window.{Window}

-- a load by a pass between calls, which has a window
pub record LooksInto (word : QueueWord) (x : ℕ) (v w : View) : Type 0 where
  pub told_is : Told word x v
  pub tells : IfSome v.window (TellsWindow word x v)
  pub left : w ≡ told word x v
  pub keeps : Keeps (beside v) (beside w) (window_obstacles word x v.window (obstacles v.stage word x v.notes))
  pub hand : w.hand ≡ Nothing
  pub stage : w.stage ≡ Away

-- how many segments the window is over
abbrev pub segments_left : Option view.Window → ℕ
segments_left None = 0
segments_left (Some o) = o.end - o.begin

-- the pass holds the places from this one to that one
pub record HoldsFrom (first last : ℕ) (v : View) : Type 0 where
  pub seen : view.Window
  pub there : v.window ≡ Some seen
  pub first_is : seen.first ≡ first
  pub last_is : seen.last ≡ last
  pub hand : v.hand ≡ Nothing
  pub stage : v.stage ≡ Away

-- the first place, which is not the last, was let go
pub record LeavesFirst (first last : ℕ) (v : View) (next : ℕ) (w : View) : Type 0 where
  pub keeps : Keeps (beside v) (beside w) []
  pub seen : view.Window
  pub there : v.window ≡ Some seen
  pub left : w.window ≡ Some (record (window_over (suc seen.begin) seen.end next seen.last) { head = left_from seen.ends seen.head seen.tail; tail = seen.tail })
  pub more : suc seen.begin < seen.end
  pub last_is : seen.last ≡ last
  pub hand : w.hand ≡ Nothing
  pub stage : w.stage ≡ Away

-- the next position lies in the first place, by what was read of that place
pub record IsAtPlace (p : QueueView) (a : Window) : Type 0 where
  pub opened : HasOpened p a
  pub inside : is_inside (eqb opened.window.seen.first opened.window.seen.last) opened.window.seen.ends a.at ≡ true

-- in this slot
pub record LiesAt (p : QueueView) (a : Window) (slot : ℕ) : Type 0 where
  pub opened : HasOpened p a
  pub lies : lies_at opened.window.seen slot a.at ≡ true

-- which is published
pub record IsShown (p : QueueView) (a : Window) (slot : ℕ) : Type 0 where
  pub opened : HasOpened p a
  pub lies : lies_at opened.window.seen slot a.at ≡ true
  pub shown : opened.window.seen.shown ≡ Some (slot, 2 * a.at + 1)

abbrev pub Stays : View → View → Type 0
Stays v w = (read : List Obstacle) × Keeps (beside v) (beside w) read

-- The first place was let go, if the next position is at its end or above and it is not the last one.
abbrev pub PassesOn : QueueView → Window → QueueView → Window → Bool → Type 0
PassesOn p a q b true = HasOpened q b × (b ≡ record a { first = b.first }) × (segments_left q.view.window < segments_left p.view.window)
PassesOn p a q b false = IsAtPlace q b × (b ≡ a)

-- The slot of the next position was read: it is published, or another caller is about to.
abbrev pub SeesNumber : QueueView → Window → ℕ → QueueView → Bool → Type 0
SeesNumber p a slot q true = IsShown q a slot × Stays p.view q.view
SeesNumber p a slot q false = HasOpened q a × ((read : List Obstacle) × Keeps (beside p.view) (beside q.view) read × Contains read (Unpublished a.first a.at (2 * a.at)) × IsPutByOther p.view a.at)

-- And its item.
abbrev pub ReadsAt : QueueView → Window → QueueView → Option ℕ → Type 0
ReadsAt p a q (Some item) = HasOpened q a × Stays p.view q.view × (slice_get (values_of p.view.seen) a.at ≡ Some (item ∷ []))
ReadsAt p a q None = HasOpened q a × ((read : List Obstacle) × Keeps (beside p.view) (beside q.view) read × Contains read (Unpublished a.first a.at (2 * a.at)) × IsPutByOther p.view a.at)
