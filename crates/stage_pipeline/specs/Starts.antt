-- The joints of a run before its threads start, and which passes of them each thread is given.
use Rattle.std.specs.Prelude.{◌≡◌, ℕ, zero, suc, ◌+◌, ◌≤◌, List, [], ◌∷◌, Option, None, Some, All, length}
use Rattle.atomic_table.specs.Seated.{TableId}
use Rattle.ho_model.specs.declared.objects.Object.{Object}
use Rattle.passes.specs.Numbers.{HasNumber, HoldsBelow, held_count}
use Rattle.turn_lock.specs.Passes.{LockPass}
use Rattle.record_lang.specs.declared.pipelines.Joint.{Joint}
use Rattle.record_lang.specs.Pipelines.{Meaning}
use Rattle.stage_pipeline.specs.Crews.{IsKit, IsNewAt}
use Rattle.stage_pipeline.specs.Runs.{channel_of}
use Rattle.stage_pipeline.specs.declared.kits.Kit.{Kit}
use Rattle.stage_pipeline.specs.declared.starts.Starts.{Starts}

-- a pass of this table's object, with so many of the numbers of its callers, that has seen nothing
pub record IsNewOf (table : TableId) (object : Object) (callers numbers : ℕ) (p : LockPass) : Type 0 where
  pub table_is : p.table ≡ table
  pub object_is : p.object ≡ object
  pub callers_are : p.callers ≡ callers
  pub unused : p.seen ≡ []
  pub count : held_count p.held ≡ numbers
  pub below : HoldsBelow callers p.held
  pub own : HasNumber p.held p.caller

-- who writes to the joint at an index: the feeder to the first, and a crew with its workers to each other
abbrev pub writers_at : ℕ → ℕ → ℕ
writers_at workers zero = 1
writers_at workers (suc index) = workers + 1

-- the passes of a joint's two sides
pub record AreSides (table : TableId) (line : Joint) (writers readers : ℕ) (w r : LockPass) : Type 0 where
  pub write : IsNewOf table (channel_of line) (writers + readers) writers w
  pub read : IsNewOf table (channel_of line) (writers + readers) readers r

-- the joint at an index, its writers' pass, and the kit of the crew that reads it
pub record StartsJoint (workers index : ℕ) (table : TableId) (line : Joint) (write : LockPass) (kit : Kit) : Type 0 where
  pub sides : AreSides table line (writers_at workers index) (workers + 1) write kit.read
  pub stage : kit.stage ≡ index + 1
  pub workers_are : kit.workers ≡ workers

-- Each joint from an index on, the first written to by this pass and each other by the crew of the joint before. Behind the last
-- crew there is none.
abbrev pub StartJoints : ℕ → ℕ → List TableId → List Joint → Option LockPass → List Kit → Type 0
StartJoints workers index [] [] None [] = Unit {0}
StartJoints workers index (table ∷ tables) (line ∷ lines) (Some write) (kit ∷ kits) =
    StartsJoint workers index table line write kit × StartJoints workers (index + 1) tables lines kit.write kits
StartJoints workers index _ _ _ _ = ⊥

-- what a run is started with
pub record AreStarts (pipeline : Meaning) (workers : ℕ) (s : Starts) : Type 0 where
  pub joints : StartJoints workers 0 s.joints.items pipeline.joints (Some s.feeds) s.kits.items
  pub kits : All (IsKit (length pipeline.stages) s.joints.items) s.kits.items
  pub feeds : IsNewAt s.joints.items 0 1 s.feeds
  pub few : length s.joints.items ≤ 8
