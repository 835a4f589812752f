use Rattle.std.proofs.Common.{◌≡◌}
use Rattle.queue_tries.specs.Scans.{HasScanned}
use Rattle.queue_tries.proofs.scans.find_place.Given as goal

abbrev pub invariant-loop-place : goal.invariant-loop-place
invariant-loop-place l = (l.pass.table ≡ l.fn.pass.table) × HasScanned l.fn.pass.view l.current l.head l.place l.pass.view
