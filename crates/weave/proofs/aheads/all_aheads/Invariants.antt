use Rattle.std.proofs.Common.{◌≡◌, take}
use Rattle.weave.specs.Cursors.{parts_left}
use Rattle.weave.specs.Aheads.{aheads_of}
use Rattle.weave.proofs.aheads.all_aheads.Given as goal

abbrev pub invariant-loop-cursor : goal.invariant-loop-cursor
invariant-loop-cursor l = l.aheads.items ≡ aheads_of (parts_left (take l.cursor-index l.cursors))
