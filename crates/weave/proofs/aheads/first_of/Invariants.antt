use Rattle.std.proofs.Common.{◌≡◌, drop}
use Rattle.weave.specs.Aheads as ahead
use Rattle.weave.proofs.aheads.first_of.Given as goal

abbrev pub invariant-loop-one : goal.invariant-loop-one
invariant-loop-one l = ahead.first_of l.kind (drop l.one-index l.made) ≡ ahead.first_of l.kind l.made
