-- One record more was written.
use Rattle.stage_pipeline.proofs.Feeding.{feeds_more}
use Rattle.stage_pipeline.proofs.Turns.{keeps_on}
use Rattle.stage_pipeline.proofs.feeder.write_all.Goals as goal

pub loop-row-preserved : goal.loop-row-preserved
loop-row-preserved g c = (
  keeps_on c.args.writer.now c.loop-row.writer c.send.new.writer c.loop-row.invariant.0 c.send.ensures.same,
  feeds_more c.loop-row.yielded c.in-Some.row c.loop-row.writer c.send.new.writer _ _ c.in-More.ensures.sent c.loop-row.invariant.1,
)
