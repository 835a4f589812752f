use Rattle.stage_pipeline.specs.Works.{KeepsPlace}
use Rattle.stage_pipeline.proofs.workers.drain.Given as goal

abbrev pub invariant-loop : goal.invariant-loop
invariant-loop g l = (goal.iterator-loop g).can_next l.iterator' × (goal.iterator-loop g).is_finite l.iterator' × KeepsPlace l.fn.reader l.reader
