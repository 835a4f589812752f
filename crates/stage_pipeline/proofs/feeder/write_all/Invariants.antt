use Rattle.stage_pipeline.specs.Crews.{Feeds}
use Rattle.stage_pipeline.specs.Works.{KeepsPlace}
use Rattle.stage_pipeline.proofs.feeder.write_all.Given as goal

abbrev pub invariant-loop-row : goal.invariant-loop-row
invariant-loop-row g l = KeepsPlace l.fn.writer l.writer × Feeds l.yielded l.writer l.lost.items
