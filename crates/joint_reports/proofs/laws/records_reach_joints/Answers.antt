use Rattle.joint_reports.proofs.Reaching.{records_reach}
use Rattle.joint_reports.proofs.laws.records_reach_joints.Goals as goal

pub returns : goal.returns
returns c = records_reach
