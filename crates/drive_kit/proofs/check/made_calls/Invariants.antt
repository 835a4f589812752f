use Rattle.std.proofs.Common.{◌≡◌, take}
use Rattle.drive_kit.specs.Checks.{calls_in_part}
use Rattle.drive_kit.proofs.check.made_calls.Given as goal

abbrev pub invariant-loop-entry : goal.invariant-loop-entry
invariant-loop-entry l = l.calls.items ≡ calls_in_part l.caller (take l.entry-index l.entries)
