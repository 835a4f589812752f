use Rattle.std.proofs.Common.{◌≡◌, ◌≤◌, take}
use Rattle.passes.specs.Numbers.{held_count}
use Rattle.passes.proofs.arrays.count_held.Given as goal

abbrev pub invariant-loop-number : goal.invariant-loop-number
invariant-loop-number l = record { counted : l.count ≡ held_count (take l.number l.held); few : l.count ≤ l.number }
