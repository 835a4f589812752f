use Rattle.std.proofs.Common.{◌∙◌, ap}
use Rattle.record_lang.specs.Texts.{Told, report_text}
use Rattle.stage_pipeline.proofs.TellLemmas.{is_ran}
use Rattle.stage_pipeline.proofs.reports.ran_of.Goals as goal

pub returns : goal.returns
returns c = λ rows workers.
    let told = rw c.has_drop_joint.ensures at c.report_of-report.ensures in
    is_ran c.args.pipeline.now rows workers c.args.done c.args.code c.sort_outcomes.new.outcomes.items c.sort_dropped.new.dropped.items c.new.result
    c.sort_outcomes.ensures.moved c.in_ok-sort_outcomes.ensures.sorted c.sort_dropped.ensures.moved c.sort_dropped.ensures.sorted
    (c.new.ensures.text ∙ c.in_ok-text.ensures ∙ ap (λ (t : Told). report_text t c.args.code) told) c.new.ensures.joints
