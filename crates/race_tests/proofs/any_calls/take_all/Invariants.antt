use Rattle.blocking_collection.specs.Several.{AllOf}
use Rattle.race_tests.proofs.any_calls.take_all.Given as goal

abbrev pub invariant-loop : goal.invariant-loop
invariant-loop g l = (goal.iterator-loop g).can_next l.iterator' × (goal.iterator-loop g).is_finite l.iterator' × AllOf l.collections l.passes
