use Rattle.std.proofs.Common.{ℕ, ◌<◌}
use Rattle.passes.specs.Numbers.{IsSpare}
use Rattle.passes.proofs.arrays.least_spare.Given as goal

abbrev pub invariant-loop-number : goal.invariant-loop-number
invariant-loop-number l = (c : ℕ) → c < l.number → ¬ IsSpare l.held l.caller c
