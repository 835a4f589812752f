-- Each call has one kit less.
use Rattle.std.proofs.Common.{length}
use Rattle.stage_pipeline.proofs.flow.+flow_in.Given as goal

abbrev pub decreases-flow_in : goal.decreases-flow_in
decreases-flow_in g l = length l.start.kits.items
