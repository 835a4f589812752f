use Rattle.std.proofs.Common.{◌∙◌, ap}
use Rattle.stage_pipeline.specs.Made.{made_summary}
use Rattle.stage_pipeline.proofs.SummaryLemmas.{is_made}
use Rattle.stage_pipeline.proofs.summaries.summary_of.Goals as goal

pub returns : goal.returns
returns c = is_made c.args.done c.new.result (c.new.ensures.text ∙ c.in_ok-text.ensures ∙ ap made_summary c.deref.ensures.value) c.new.ensures.joints
