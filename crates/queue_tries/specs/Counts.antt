-- The parts of a count: v is the view before, and w after.
use Rattle.std.specs.Prelude.{◌≡◌, ℕ, ◌≤◌, ◌-◌, List, [], Bool, true, false, None, Some}
use Rattle.ho_model.specs.declared.marks.CallMark.TheVariants.{Count}
use Rattle.ho_model.specs.declared.marks.ReplyMark.TheVariants.{Counted}
use Rattle.ho_model.specs.Entries.{entry}
use Rattle.ho_model.specs.QueueReceipts.{IsLook}
use Rattle.passes.specs.Numbers.{HasNumber}
use Rattle.seg_rule.specs.declared.view.View.{View}
use Rattle.seg_rule.specs.declared.view.OpenTail.{OpenTail}
use Rattle.seg_rule.specs.declared.view.Obstacle.{Obstacle}
use Rattle.seg_rule.specs.declared.view.Hand.TheVariants.{Nothing}
use Rattle.seg_rule.specs.declared.view.Stage.TheVariants.{Plain, Closed}
use Rattle.seg_rule.specs.Rule.{IsWhole}
use Rattle.queue_tries.specs.Causes.{TailHasMoved}
use Rattle.queue_tries.specs.Walks.{GoesOn, Made}
use Rattle.queue_tries.specs.declared.answers.QueueOnce.{QueueOnce}
use Rattle.queue_tries.specs.declared.answers.QueueOnce.TheVariants.{Answer, Again}
use Rattle.queue_tries.specs.declared.answers.QueueAgain.TheVariants.{Lost}

-- The call is counted at its turn, and has nothing in hand.
pub record IsPaid (v : View) : Type 0 where
  pub hand : v.hand ≡ Nothing
  pub window : v.window ≡ None
  pub joint : v.joint ≡ None
  pub paid : v.paid ≡ true
  pub own : HasNumber v.held v.caller

-- the current place was read, while its tail is open
pub record ReadsCurrent (v : View) (place : ℕ) (w : View) : Type 0 where
  pub goes : GoesOn v w []
  pub plain : w.stage ≡ Plain
  pub current : w.notes.scan.current ≡ Some place

-- and its tail
pub record ReadsOpen (v : View) (place at : ℕ) (w : View) : Type 0 where
  pub read : List Obstacle
  pub goes : GoesOn v w read
  pub plain : w.stage ≡ Plain
  pub tail : OpenTail
  pub noted : w.notes.tail ≡ Some tail
  pub place_is : tail.place ≡ place
  pub at_is : tail.position ≡ at

-- the tail was closed, or it had moved on
abbrev pub Closes : View → ℕ → ℕ → View → Bool → Type 0
Closes v place at w true = GoesOn v w [] × ((full : Bool) × (w.stage ≡ Closed place at full))
Closes v place at w false = (read : List Obstacle) × GoesOn v w read × (w.stage ≡ Plain) × TailHasMoved read × (¬ IsWhole v)

-- the head was looked at, with the tail closed
abbrev pub Looks : View → ℕ → ℕ → View → Type 0
Looks v at head w = Made v (entry v.caller Count (Counted (at - head))) (λ t. (t.enqueued ≡ at) × (t.taken ≡ head)) w × (head ≤ at)

-- a count under the turn
abbrev pub CountsPaid : View → View → QueueOnce ℕ → Type 0
CountsPaid v w (Answer count receipt) = Made v (entry v.caller Count (Counted count)) (λ t. IsLook t receipt) w
CountsPaid v w (Again Lost) = (read : List Obstacle) × GoesOn v w read × TailHasMoved read × (¬ IsWhole v)
CountsPaid v w _ = ⊥
