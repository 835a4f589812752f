use Rattle.joint_reports.proofs.Outcomes.{outcomes_kept}
use Rattle.joint_reports.proofs.laws.outcomes_are_kept.Goals as goal

pub returns : goal.returns
returns c = outcomes_kept
