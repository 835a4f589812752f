use Rattle.std.proofs.Common.{List}
use Rattle.std.proofs.lemmas.Result.{IfOk-weaker}
use Rattle.record_lang.specs.Records.{AreNumbered, Row}
use Rattle.stage_pipeline.specs.Meetings.{HandsOn}
use Rattle.stage_pipeline.specs.Tellings.{AreFed, HasRun}
use Rattle.stage_pipeline.specs.declared.runs.Done.{Done}
use Rattle.stage_pipeline.proofs.runs.run_joints.Goals as goal

pub returns : goal.returns
returns g c =
    let pipeline = c.args.pipeline.now in
    let workers = c.args.workers in
    IfOk-weaker c.run_all.result
    (λ (done : Done). (rows : List Row) → AreFed pipeline rows c.args.fed → HandsOn pipeline rows workers done)
    (λ (done : Done). (rows : List Row) → AreNumbered rows → AreFed pipeline rows c.args.fed → HasRun pipeline rows workers done)
    (λ done h rows numbered fed. c.meetings_tell_runs.ensures pipeline rows workers done c.tell_built.ensures numbered (h rows fed))
    c.run_all.ensures
