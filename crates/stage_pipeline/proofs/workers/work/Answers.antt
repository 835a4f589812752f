use Rattle.joint_reports.specs.Through.{says}
use Rattle.stage_pipeline.proofs.Turns.{works_as}
use Rattle.stage_pipeline.proofs.workers.work.Goals as goal

pub returns-in-Ended-clause-worked : goal.returns-in-Ended-clause-worked
returns-in-Ended-clause-worked g c whole what at =
    let before = c.loop.invariant.4 what at in
    let after = c.in-Ended.ensures.ended (says what c.args.job.stage) before in
    works_as (says what c.args.job.stage) _ _ _ _ _ _ _ _ c.end_of.ensures.reader c.end_of.ensures.writer c.end_of.ensures.over c.end_of.ensures.lost after
