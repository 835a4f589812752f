use Rattle.std.proofs.Common.{◌≡◌, ◌++◌, take}
use Rattle.stage_pipeline.specs.Gathered.{dropped_by}
use Rattle.stage_pipeline.proofs.meeting.add_dropped.Given as goal

abbrev pub invariant-loop-number : goal.invariant-loop-number
invariant-loop-number l = l.dropped.items ≡ l.fn.dropped.items ++ dropped_by l.joint (take l.number-index l.numbers)
