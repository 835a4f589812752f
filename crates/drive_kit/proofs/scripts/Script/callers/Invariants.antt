use Rattle.std.proofs.Common.{◌≡◌, ◌≤◌, take}
use Rattle.drive_kit.specs.Plans.{callers_of}
use Rattle.drive_kit.proofs.scripts.Script.callers.Given as goal

abbrev pub invariant-loop-row : goal.invariant-loop-row
invariant-loop-row l = record {
  is : l.callers ≡ callers_of (take l.row-index l.self.rows);
  few : l.callers ≤ 16;
}
