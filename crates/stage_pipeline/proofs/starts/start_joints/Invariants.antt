use Rattle.stage_pipeline.proofs.Starting.{BeginsAll}
use Rattle.stage_pipeline.proofs.starts.start_joints.Given as goal

abbrev pub invariant-stages : goal.invariant-stages
invariant-stages l = BeginsAll l.workers l.stage l.read l.starts.joints.items l.starts.feeds l.starts.kits.items l.pipeline.joints
