use Rattle.std.proofs.Common.{◌≡◌, take}
use Rattle.weave.specs.Cursors.{parts_left}
use Rattle.weave.proofs.cursors.whole_parts.Given as goal

abbrev pub invariant-loop-part : goal.invariant-loop-part
invariant-loop-part l = parts_left l.cursors.items ≡ take l.part-index l.parts
