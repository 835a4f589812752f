use Rattle.std.proofs.Common.{◌≡◌, length}
use Rattle.std.specs.Vec.Iter.{into_iter_items, into_iter_len}
use Rattle.stage_pipeline.proofs.Gathering.{SoFar}
use Rattle.stage_pipeline.proofs.meeting.gather.Given as goal

abbrev pub invariant-ends : goal.invariant-ends
invariant-ends l = SoFar l.fn.flow l.joints l.joint l.side (into_iter_items l.end-iterator) l.done × (into_iter_len l.end-iterator ≡ length (into_iter_items l.end-iterator))
