use Rattle.std.proofs.Common.{◌≡◌, take}
use Rattle.drive_kit.proofs.check.first_difference.Given as goal

abbrev pub invariant-loop-i : goal.invariant-loop-i
invariant-loop-i l = take l.i l.made ≡ take l.i l.planned
