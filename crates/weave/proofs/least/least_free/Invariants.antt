use Rattle.weave.specs.Cursors.{parts_left}
use Rattle.weave.specs.Aheads.{IsLeast}
use Rattle.weave.proofs.least.least_free.Given as goal

abbrev pub invariant-loop-index : goal.invariant-loop-index
invariant-loop-index l = IsLeast l.room l.aheads (parts_left l.cursors) l.index l.least
