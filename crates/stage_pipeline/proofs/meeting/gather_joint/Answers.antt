use Rattle.stage_pipeline.proofs.Gathering.{ends_there}
use Rattle.stage_pipeline.proofs.meeting.gather_joint.Goals as goal

pub unreachable-requires : goal.unreachable-requires
unreachable-requires c = let there = ends_there _ _ _ _ c.requires.ends.1 in c.in_default.not-Some there.0 there.1
