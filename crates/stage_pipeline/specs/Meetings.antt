-- What is known once all threads of a run were joined, and both passes of each joint were joined to a whole one.
use Rattle.std.specs.Prelude.{◌≡◌, ℕ, ◌+◌, ◌<◌, List, [], ◌∷◌, None, Some, map, sum_by}
use Rattle.ho_base.specs.Marks.{number_of}
use Rattle.passes.specs.Calls.{Joins}
use Rattle.passes.specs.Numbers.{HoldsBelow, held_count}
use Rattle.passes.specs.Views.{IsWhole}
use Rattle.turn_lock.specs.Passes.{LockPass}
use Rattle.channel_core.specs.Marks.{fault_number}
use Rattle.channel_flow.specs.Ends.{is_closed, is_closed_with}
use Rattle.record_lang.specs.Guards.{fed_rows, stop_code}
use Rattle.record_lang.specs.Pipelines.{Meaning}
use Rattle.record_lang.specs.Records.{Row}
use Rattle.record_lang.specs.declared.outcomes.Outcome.{Outcome}
use Rattle.record_lang.specs.declared.pipelines.Joint.{Joint}
use Rattle.record_lang.specs.declared.pipelines.Stage.{Stage}
use Rattle.record_lang.specs.declared.reports.Dropped.{Dropped}
use Rattle.joint_reports.specs.Through.{says}
use Rattle.stage_pipeline.specs.Crews.{Completes, Feeds}
use Rattle.stage_pipeline.specs.Works.{WorksOff, counts}
use Rattle.stage_pipeline.specs.Runs.{callers_at, channel_of}
use Rattle.stage_pipeline.specs.declared.runs.Done.{Done}

-- A joint: its writers' pass before they completed it and after, the numbers that they say were dropped, its readers' pass, the
-- outcomes that ended at the readers' stage, and the pass that both were joined to.
pub record JointEnd : Type 0 where
  pub before : LockPass
  pub after : LockPass
  pub lost : List ℕ
  pub read : LockPass
  pub over : List Outcome
  pub whole : LockPass

-- each of so many workers that read it was told of its end; with their crew they are its readers
pub record MeetsJoint (line : Joint) (callers workers fault : ℕ) (e : JointEnd) : Type 0 where
  pub object : e.whole.object ≡ channel_of line
  pub callers_are : e.whole.callers ≡ callers
  pub completes : Completes fault e.before e.after
  pub joined : Joins number_of e.after e.read e.whole
  pub all : IsWhole e.whole
  pub closed : counts is_closed e.read ≡ workers
  pub readers : held_count e.read.held ≡ workers + 1
  pub below : HoldsBelow callers e.read.held

-- each joint is completed with the fault that the readers of the joint before it were told
abbrev pub MeetJoints : ℕ → ℕ → List Joint → ℕ → List JointEnd → Type 0
MeetJoints workers index [] fault [] = Unit {0}
MeetJoints workers index (line ∷ lines) fault (e ∷ ends) =
    MeetsJoint line (callers_at workers index) workers fault e × ((told : ℕ) × (0 < counts (is_closed_with told) e.read) × MeetJoints workers (index + 1) lines told ends)
MeetJoints workers index _ fault _ = ⊥

-- each stage worked off what its joint gave, into the next joint
abbrev pub WorkStages : List Stage → ℕ → List JointEnd → Type 0
WorkStages (what ∷ []) stage (e ∷ []) = WorksOff (says what stage) e.read None e.over []
WorkStages (what ∷ (next ∷ stages)) stage (e ∷ (f ∷ ends)) =
    WorksOff (says what stage) e.read (Some f.before) e.over f.lost × WorkStages (next ∷ stages) (stage + 1) (f ∷ ends)
WorkStages _ stage _ = ⊥

-- the first joint was fed these records
abbrev pub FeedsFirst : List Row → List JointEnd → Type 0
FeedsFirst fed [] = ⊥
FeedsFirst fed (e ∷ ends) = Feeds fed e.before e.lost

-- what the dropped records weigh, from this joint on
abbrev pub lost_from : ℕ → List JointEnd → (Dropped → ℕ) → ℕ
lost_from joint [] g = 0
lost_from joint (e ∷ ends) g = sum_by (λ n. g (record { number = n; joint = joint })) e.lost + lost_from (joint + 1) ends g

pub record HasMet (pipeline : Meaning) (rows : List Row) (workers : ℕ) (ends : List JointEnd) : Type 0 where
  pub meet : MeetJoints workers 0 pipeline.joints (fault_number (stop_code pipeline.guard rows)) ends
  pub work : WorkStages pipeline.stages 1 ends
  pub feeds : FeedsFirst (fed_rows pipeline.guard rows) ends

-- what a run hands on: the whole pass of each joint, all outcomes, and all dropped records, in any order
pub record HandsOn (pipeline : Meaning) (rows : List Row) (workers : ℕ) (done : Done) : Type 0 where
  pub ends : List JointEnd
  pub met : HasMet pipeline rows workers ends
  pub joints : done.joints.items ≡ map (λ e. e.whole) ends
  pub outcomes : (k : Outcome → ℕ) → sum_by k done.outcomes.items ≡ sum_by (λ e. sum_by k e.over) ends
  pub dropped : (g : Dropped → ℕ) → sum_by g done.dropped.items ≡ lost_from 1 ends g
