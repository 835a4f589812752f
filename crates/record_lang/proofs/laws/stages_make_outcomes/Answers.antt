use Rattle.record_lang.proofs.OutcomeLemmas.{stage_by_stage}
use Rattle.record_lang.proofs.laws.stages_make_outcomes.Goals as goal

pub returns : goal.returns
returns c = stage_by_stage
