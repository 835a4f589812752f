use Rattle.std.proofs.Common.{◌≡◌, ◌++◌, ◌-◌, replicate, true, false}
use Rattle.passes.proofs.arrays.first_numbers.Given as goal

abbrev pub invariant-loop-number : goal.invariant-loop-number
invariant-loop-number l = l.held ≡ replicate l.number true ++ replicate (64 - l.number) false
