use Rattle.std.proofs.Common.{◌≡◌, ◌+◌, drop}
use Rattle.record_lang.specs.Outcomes.{outcome_from}
use Rattle.record_lang.specs.declared.outcomes.Outcome.TheVariants as to
use Rattle.record_lang.proofs.outcomes.outcome_of.Given as goal

abbrev pub invariant-loop-i : goal.invariant-loop-i
invariant-loop-i l = outcome_from (drop l.i l.stages) (l.i + 1) (to.Result l.row) ≡ outcome_from l.stages 1 (to.Result l.fn.given)
