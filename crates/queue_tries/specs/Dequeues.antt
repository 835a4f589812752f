-- How a take ends: v is the view after its entry, and w later.
use Rattle.std.specs.Prelude.{◌≡◌, ℕ, List}
use Rattle.seg_rule.specs.declared.view.View.{View}
use Rattle.seg_rule.specs.declared.view.Leave.{Leave}
use Rattle.seg_rule.specs.declared.view.Obstacle.{Obstacle}
use Rattle.seg_rule.specs.declared.view.Hand.TheVariants.{Nothing, Taking}
use Rattle.seg_rule.specs.declared.view.Stage.TheVariants.{Away}
use Rattle.seg_rule.specs.Passes.{IsOver}
use Rattle.queue_tries.specs.Walks.{Keeps}

-- The slot was released, or is left to the snapshots that observe its place.
pub record LeavesSlot (v : View) (place : ℕ) (w : View) : Type 0 where
  pub read : List Obstacle
  pub keeps : Keeps v w read
  pub away : w.stage ≡ Away
  pub position : ℕ
  pub slot : ℕ
  pub leave : Leave
  pub hand : w.hand ≡ Taking position place slot leave
  pub over : IsOver leave

-- nothing is in hand any more
pub record GivesBack (v w : View) : Type 0 where
  pub read : List Obstacle
  pub keeps : Keeps v w read
  pub away : w.stage ≡ Away
  pub hand : w.hand ≡ Nothing
