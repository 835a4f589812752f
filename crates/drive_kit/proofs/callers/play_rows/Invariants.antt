use Rattle.std.proofs.Common.{take}
use Rattle.passes.specs.Calls.{IsSamePass}
use Rattle.drive_kit.specs.Playing.{HasMade, IsOf, pass_of}
use Rattle.drive_kit.proofs.callers.play_rows.Given as goal

abbrev pub invariant-loop-row : goal.invariant-loop-row
invariant-loop-row g l = record {
  of : IsOf l.stand l.pass;
  same : IsSamePass (pass_of l.fn.pass) (pass_of l.pass);
  played : HasMade l.stand (take l.row-index l.rows) (pass_of l.pass) l.own;
}
