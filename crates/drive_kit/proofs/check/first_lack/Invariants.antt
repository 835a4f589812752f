use Rattle.std.proofs.Common.{◌≡◌, ◌<◌, ℕ}
use Rattle.drive_kit.specs.Checks.{calls_in_part}
use Rattle.drive_kit.specs.Plans.{calls_by}
use Rattle.drive_kit.proofs.check.first_lack.Given as goal

abbrev pub invariant-loop-caller : goal.invariant-loop-caller
invariant-loop-caller l = (caller : ℕ) → caller < l.caller → calls_in_part caller l.entries ≡ calls_by caller l.rows
