-- What the text of a run is made from.
use Rattle.std.specs.Prelude.{◌≡◌, ℕ, List}
use Rattle.std.specs.List.Sorted.{IsPermutation}
use Rattle.record_lang.specs.Guards.{fed_rows, stop_code}
use Rattle.record_lang.specs.Pipelines.{Meaning, HasJoints}
use Rattle.record_lang.specs.Records.{Row, AreNumbered}
use Rattle.record_lang.specs.declared.texts.FedRows.{FedRows}
use Rattle.joint_reports.specs.Reports.{dropped_from, kept_outcomes}
use Rattle.stage_pipeline.specs.Meetings.{HandsOn}
use Rattle.stage_pipeline.specs.Runs.{AreJointPasses, drops_of}
use Rattle.stage_pipeline.specs.declared.runs.Done.{Done}

-- of these rows those are fed, and feeding ends with that code
pub record AreFed (pipeline : Meaning) (rows : List Row) (fed : FedRows) : Type 0 where
  pub rows_are : fed.rows.items ≡ fed_rows pipeline.guard rows
  pub code_is : fed.code ≡ stop_code pipeline.guard rows

-- The whole pass of each joint; the outcomes of the records that no joint dropped, and the dropped records, each once.
pub record HasRun (pipeline : Meaning) (rows : List Row) (workers : ℕ) (done : Done) : Type 0 where
  pub joints : AreJointPasses pipeline rows workers done.joints.items
  pub outcomes : IsPermutation done.outcomes.items (kept_outcomes pipeline.stages (drops_of done.joints.items) (fed_rows pipeline.guard rows))
  pub dropped : IsPermutation done.dropped.items (dropped_from 1 (drops_of done.joints.items) (fed_rows pipeline.guard rows))

-- what has met tells the run
abbrev pub MeetingsTellRuns : Type 0
MeetingsTellRuns =
    (pipeline : Meaning) (rows : List Row) (workers : ℕ) (done : Done) → HasJoints pipeline.stages pipeline.joints → AreNumbered rows →
    HandsOn pipeline rows workers done → HasRun pipeline rows workers done
