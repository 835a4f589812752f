use Rattle.std.proofs.Common.{ℕ, List, subst}
use Rattle.std.proofs.lemmas.Result.{IfOk-weaker}
use Rattle.record_lang.specs.Pipelines.{Meaning}
use Rattle.record_lang.specs.Records.{Row}
use Rattle.stage_pipeline.specs.Made.{IsMade, made_meaning, made_rows}
use Rattle.stage_pipeline.specs.Runs.{RanView}
use Rattle.stage_pipeline.specs.Tellings.{HasRun}
use Rattle.stage_pipeline.proofs.runs.made_text.Goals as goal

pub returns : goal.returns
returns g c =
    let done = c.in_ok-done.done in
    let fed = c.rows_to_feed-fed.ensures in
    let ran = c.in_ok-done.ensures c.in_ok-records.records c.tell_numbered.ensures (record { rows_are = fed.rows; code_is = fed.code }) in
    let rows = subst (λ (rows : List Row). HasRun c.in_ok-pipeline.pipeline rows c.args.workers done) c.in_ok-records.ensures ran in
    let run = subst (λ (pipeline : Meaning). HasRun pipeline (made_rows c.args.count c.args.seed) c.args.workers done) c.in_ok-pipeline.ensures rows in
    IfOk-weaker c.summary_of.result
    (λ (ran : RanView). (count seed workers : ℕ) → HasRun made_meaning (made_rows count seed) workers done → IsMade count seed workers ran)
    (IsMade c.args.count c.args.seed c.args.workers)
    (λ ran h. h c.args.count c.args.seed c.args.workers run)
    c.summary_of.ensures
