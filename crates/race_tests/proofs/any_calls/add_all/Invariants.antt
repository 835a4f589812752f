use Rattle.blocking_collection.specs.Several.{AllOf}
use Rattle.race_tests.proofs.any_calls.add_all.Given as goal

abbrev pub invariant-loop-number : goal.invariant-loop-number
invariant-loop-number g l = AllOf l.collections l.passes
