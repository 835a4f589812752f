use Rattle.std.proofs.Common.{◌≡◌, take}
use Rattle.drive_kit.specs.Plans.{calls_by}
use Rattle.drive_kit.proofs.check.planned_calls.Given as goal

abbrev pub invariant-loop-row : goal.invariant-loop-row
invariant-loop-row l = l.calls.items ≡ calls_by l.caller (take l.row-index l.rows)
