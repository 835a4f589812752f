use Rattle.std.proofs.Common.{◌≡◌, ◌+◌, ◌≤◌}
use Rattle.concurrent_bag.proofs.tests.rows.fills.Given as goal

abbrev pub invariant-loop-item : goal.invariant-loop-item
invariant-loop-item l = (l.bag.callers ≡ l.initial.bag.callers) × (l.bag.steps ≤ l.initial.bag.steps + l.item)
