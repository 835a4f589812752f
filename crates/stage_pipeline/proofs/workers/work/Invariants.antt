use Rattle.std.proofs.Common.{◌≡◌, ◌-◌, Some, slice_get}
use Rattle.record_lang.specs.declared.pipelines.Stage.{Stage}
use Rattle.channel_flow.specs.Ends.{is_closed}
use Rattle.joint_reports.specs.Through.{says}
use Rattle.stage_pipeline.specs.Works.{KeepsPlace, KeepsPlaceTo, WorksOff, counts}
use Rattle.stage_pipeline.proofs.workers.work.Given as goal

abbrev pub invariant-loop : goal.invariant-loop
invariant-loop g l =
    (goal.iterator-loop g).can_next l.iterator' × (goal.iterator-loop g).is_finite l.iterator'
    × KeepsPlace l.fn.job.reader l.desk.reader × KeepsPlaceTo l.fn.job.writer l.desk.writer
    × ((what : Stage) → slice_get l.pipeline.stages (l.fn.job.stage - 1) ≡ Some what → WorksOff (says what l.fn.job.stage) l.desk.reader l.desk.writer l.desk.over.items l.desk.lost.items)
    × (counts is_closed l.desk.reader ≡ 0)
