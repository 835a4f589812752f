-- What the workers of a crew are started with, one or several, and what they leave.
use Rattle.std.specs.Prelude.{◌≡◌, ℕ, ◌-◌, ◌<◌, ◌≤◌, List, ◌++◌, true, Option, None, Some, slice_get}
use Rattle.atomic_table.specs.Seated.{TableId}
use Rattle.ho_base.specs.Marks.{number_of}
use Rattle.passes.specs.Calls.{Joins, Splits}
use Rattle.turn_lock.specs.Passes.{LockPass}
use Rattle.channel_core.specs.Marks.{fault_number}
use Rattle.channel_flow.specs.Ends.{is_closed, is_closed_with}
use Rattle.record_lang.specs.Pipelines.{Meaning}
use Rattle.record_lang.specs.declared.pipelines.Stage.{Stage}
use Rattle.joint_reports.specs.Through.{says}
use Rattle.stage_pipeline.specs.Crews.{ComesBack, ComesBackTo, IsNewAt, IsNewAtTo}
use Rattle.stage_pipeline.specs.Works.{WorksOff, counts}
use Rattle.stage_pipeline.specs.declared.seats.Seat.{Seat}
use Rattle.stage_pipeline.specs.declared.seats.SeatEnd.{SeatEnd}

-- New passes of the joint that feeds the stage and of the next, each with so many numbers. The last stage has no next joint.
pub record IsSeat (stages : ℕ) (joints : List TableId) (numbers : ℕ) (s : Seat) : Type 0 where
  pub from : 1 ≤ s.stage
  pub to : s.stage ≤ stages
  pub reads : IsNewAt joints (s.stage - 1) numbers s.read
  pub writes : IsNewAtTo joints s.stage numbers s.write

-- The passes come back. Where all found memory, what was read was worked off, and each of so many workers was told of the end of
-- the joint, once.
pub record SeatEnds (pipeline : Meaning) (workers : ℕ) (s : Seat) (e : SeatEnd) : Type 0 where
  pub read : ComesBack s.read e.read
  pub write : ComesBackTo s.write e.write
  pub works : e.whole ≡ true → (what : Stage) → slice_get pipeline.stages (s.stage - 1) ≡ Some what → WorksOff (says what s.stage) e.read e.write e.over.items e.lost.items
  pub closed : e.whole ≡ true → counts is_closed e.read ≡ workers

-- a worker was told this fault at the end of its joint
abbrev pub IsToldFault : SeatEnd → Type 0
IsToldFault e = e.whole ≡ true → 0 < counts (is_closed_with (fault_number e.fault)) e.read

-- a pass that is there is of the joint at this index
abbrev pub IsOfTo : List TableId → ℕ → Option LockPass → Type 0
IsOfTo joints index None = Unit {0}
IsOfTo joints index (Some p) = slice_get joints index ≡ Some p.table

-- both passes are there and of the joint at this index, or neither is
abbrev pub AreOfTo : List TableId → ℕ → Option LockPass → Option LockPass → Type 0
AreOfTo joints index None None = Unit {0}
AreOfTo joints index None (Some q) = ⊥
AreOfTo joints index (Some p) None = ⊥
AreOfTo joints index (Some p) (Some q) = (slice_get joints index ≡ Some p.table) × (slice_get joints index ≡ Some q.table)

-- a split, and a join, of passes that are there or not
abbrev pub SplitsTo : Option LockPass → Option LockPass → Option LockPass → Type 0
SplitsTo None None None = Unit {0}
SplitsTo (Some p) (Some q) (Some other) = Splits p q other
SplitsTo _ _ _ = ⊥

abbrev pub JoinsTo : Option LockPass → Option LockPass → Option LockPass → Type 0
JoinsTo None None None = Unit {0}
JoinsTo (Some p) (Some other) (Some q) = Joins number_of p other q
JoinsTo _ _ _ = ⊥

-- one worker's seat, with this number at the gate, is split off
pub record SplitsSeat (number : ℕ) (s t other : Seat) : Type 0 where
  pub stage : (t.stage ≡ s.stage) × (other.stage ≡ s.stage)
  pub first : t.number ≡ s.number
  pub number_is : other.number ≡ number
  pub read : Splits s.read t.read other.read
  pub write : SplitsTo s.write t.write other.write

-- what another left is taken in, with its fault
pub record TakesIn (e other all : SeatEnd) : Type 0 where
  pub read : Joins number_of e.read other.read all.read
  pub write : JoinsTo e.write other.write all.write
  pub fault : all.fault ≡ other.fault
  pub whole : all.whole ≡ true → (e.whole ≡ true) × (other.whole ≡ true) × (all.over.items ≡ e.over.items ++ other.over.items) × (all.lost.items ≡ e.lost.items ++ other.lost.items)
