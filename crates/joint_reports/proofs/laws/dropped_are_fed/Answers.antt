use Rattle.joint_reports.proofs.Reaching.{dropped_fed}
use Rattle.joint_reports.proofs.laws.dropped_are_fed.Goals as goal

pub returns : goal.returns
returns c = dropped_fed
