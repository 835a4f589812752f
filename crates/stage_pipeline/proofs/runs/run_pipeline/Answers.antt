use Rattle.std.proofs.Common.{◌≡◌, ℕ, List}
use Rattle.std.proofs.lemmas.Result.{IfOk-weaker}
use Rattle.record_lang.specs.Guards.{stop_code}
use Rattle.record_lang.specs.Records.{AreNumbered, Row}
use Rattle.stage_pipeline.specs.Runs.{IsRan, RanView}
use Rattle.stage_pipeline.specs.Tellings.{HasRun}
use Rattle.stage_pipeline.proofs.runs.run_pipeline.Goals as goal

pub returns : goal.returns
returns g c =
    let pipeline = c.args.pipeline.now in
    let done = c.in_ok-done.done in
    let fed = c.rows_to_feed-fed.ensures in
    let numbered = c.tell_numbered.ensures in
    IfOk-weaker c.ran_of.result
    (λ (ran : RanView). (rows : List Row) (workers : ℕ) → AreNumbered rows → HasRun pipeline rows workers done → c.rows_to_feed-fed.result.code ≡ stop_code pipeline.guard rows → IsRan pipeline rows workers ran)
    (IsRan pipeline c.args.records c.args.workers)
    (λ ran h. h c.args.records c.args.workers numbered (c.in_ok-done.ensures c.args.records numbered (record { rows_are = fed.rows; code_is = fed.code })) fed.code)
    c.ran_of.ensures
