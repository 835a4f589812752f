-- The parts of a snapshot: v is the view before, and w after.
use Rattle.std.specs.Prelude.{◌≡◌, ℕ, suc, ◌-◌, ◌≤◌, List, [], length, Bool, true, None, Some}
use Rattle.ho_model.specs.declared.marks.CallMark.TheVariants.{Snap}
use Rattle.ho_model.specs.declared.marks.ReplyMark.TheVariants.{Numbers}
use Rattle.ho_model.specs.Entries.{entry}
use Rattle.ho_model.specs.Enqueues.{values_of}
use Rattle.ho_model.specs.QueueReceipts.{IsLook}
use Rattle.passes.specs.Numbers.{HasNumber}
use Rattle.seg_rule.specs.declared.view.View.{View}
use Rattle.seg_rule.specs.declared.view.Window as view
use Rattle.seg_rule.specs.declared.view.Obstacle.{Obstacle}
use Rattle.seg_rule.specs.declared.view.Hand.TheVariants.{Nothing}
use Rattle.seg_rule.specs.declared.view.Stage.{Stage}
use Rattle.seg_rule.specs.declared.view.Stage.TheVariants.{Away, Closed, Observing}
use Rattle.seg_rule.specs.Rule.{IsWhole}
use Rattle.seg_rule.specs.Snapshots.{numbers_from}
use Rattle.seg_rule.specs.Steps.{IsAtRest}
use Rattle.seg_rule.specs.Tells.{place_count}
use Rattle.queue_tries.specs.Causes.{TailHasMoved}
use Rattle.queue_tries.specs.Walks.{GoesOn, Made}
use Rattle.queue_tries.specs.Windows.{IsWindowOf}
use Rattle.queue_tries.specs.declared.answers.Window.{Window}
use Rattle.queue_tries.specs.declared.answers.QueueOnce.{QueueOnce}
use Rattle.queue_tries.specs.declared.answers.QueueOnce.TheVariants.{Answer, Again}
use Rattle.queue_tries.specs.declared.answers.QueueAgain.TheVariants.{Lost}

-- all but the window
abbrev pub beside : View → View
beside v = record v { window = None }

-- the call has nothing in hand, and is counted
pub record IsCounted (v : View) : Type 0 where
  pub hand : v.hand ≡ Nothing
  pub joint : v.joint ≡ None
  pub paid : v.paid ≡ true
  pub own : HasNumber v.held v.caller

abbrev pub IsClosedAt : ℕ → ℕ → View → Type 0
IsClosedAt current tail v = (full : Bool) × (v.stage ≡ Closed current tail full)

-- the head was read, with the tail of the current place closed
pub record SeesHead (v : View) (current tail head : ℕ) (w : View) : Type 0 where
  pub read : List Obstacle
  pub goes : GoesOn v w read
  pub closed : IsClosedAt current tail w
  pub noted : w.notes.head ≡ Some head

-- the first place was read, with the tail of the current one closed at this position
pub record ReadsFirst (v : View) (current tail first : ℕ) (w : View) : Type 0 where
  pub read : List Obstacle
  pub goes : GoesOn v w read
  pub closed : IsClosedAt current tail w
  pub first_is : w.notes.scan.first ≡ Some first

-- the places from the first up to and with this one are observed, in the order of the chain
pub record IsObserving (current tail first place : ℕ) (v : View) : Type 0 where
  pub seen : view.Window
  pub segment : ℕ
  pub stage : v.stage ≡ Observing current tail seen.begin segment place
  pub there : v.window ≡ Some seen
  pub ends : seen.end ≡ suc segment
  pub first_is : seen.first ≡ first

-- from the point v of the call
pub record Observes (v : View) (current tail first place : ℕ) (w : View) : Type 0 where
  pub goes : GoesOn (beside v) (beside w) []
  pub at : IsObserving current tail first place w

-- an upper bound of how many places are still to be observed
abbrev pub places_left : Stage → ℕ
places_left (Observing q t b n p) = t - n
places_left _ = 0

-- The head was looked at, and the turn given back. The window has the positions from there up to the tail.
pub record LooksAll (v : View) (current tail first head : ℕ) (w : View) : Type 0 where
  pub made : Made (beside v) (entry v.caller Snap (Numbers (numbers_from head w.seen))) (λ t. (t.enqueued ≡ tail) × (t.taken ≡ head)) (beside w)
  pub under : head ≤ tail
  pub all : length (values_of w.seen) ≡ tail
  pub seen : view.Window
  pub there : w.window ≡ Some seen
  pub first_is : seen.first ≡ first
  pub last_is : seen.last ≡ current
  pub head_is : seen.head ≡ head
  pub tail_is : seen.tail ≡ tail
  pub hand : w.hand ≡ Nothing
  pub stage : w.stage ≡ Away

-- the pass has the window open
pub record OpensWindow (w : View) (o : Window) : Type 0 where
  pub window : IsWindowOf (place_count w) w.seen w.window o
  pub at : o.at ≡ o.head
  pub hand : w.hand ≡ Nothing
  pub stage : w.stage ≡ Away

-- a snapshot with the tail closed
abbrev pub SnapsClosed : View → ℕ → Window → View → Type 0
SnapsClosed v tail o w = Made v (entry v.caller Snap (Numbers (numbers_from o.head w.seen))) (λ t. (t.enqueued ≡ tail) × (t.taken ≡ o.head)) (beside w) × OpensWindow w o

-- a snapshot under the turn
abbrev pub WindowsPaid : View → View → QueueOnce Window → Type 0
WindowsPaid v w (Answer o receipt) = Made v (entry v.caller Snap (Numbers (numbers_from o.head w.seen))) (λ t. IsLook t receipt) (beside w) × OpensWindow w o
WindowsPaid v w (Again Lost) = IsAtRest w × ((read : List Obstacle) × GoesOn v w read × TailHasMoved read × (¬ IsWhole v))
WindowsPaid v w _ = ⊥
