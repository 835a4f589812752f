use Rattle.std.proofs.Common.{◌≡◌, ◌+◌}
use Rattle.queue_tries.specs.Growth.{prepared}
use Rattle.queue_tries.proofs.growth.write_numbers.Given as goal

abbrev pub invariant-loop-slot : goal.invariant-loop-slot
invariant-loop-slot l = (l.pass.table ≡ l.initial.pass.table) × (l.pass.view ≡ prepared l.initial.pass.view l.current l.place l.tail l.length (4 + l.slot))
