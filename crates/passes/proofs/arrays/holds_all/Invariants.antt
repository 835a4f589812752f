use Rattle.std.proofs.Common.{ℕ, ◌<◌}
use Rattle.passes.specs.Numbers.{HasNumber}
use Rattle.passes.proofs.arrays.holds_all.Given as goal

abbrev pub invariant-loop-number : goal.invariant-loop-number
invariant-loop-number l = (c : ℕ) → c < l.number → HasNumber l.held c
