use Rattle.std.proofs.Common.{rules}
use Rattle.std.proofs.lemmas.List.Sorted.{IsNonDecreasingBy-from_sort_by_key}
use Rattle.record_lang.specs.Outcomes.{number_of_outcome}
use Rattle.stage_pipeline.proofs.reports.sort_outcomes.Goals as goal

pub returns-clause-sorted : goal.returns-clause-sorted
returns-clause-sorted c = IsNonDecreasingBy-from_sort_by_key number_of_outcome _ c.in_ok-sort_by_key.ensures.sorted (λ a r q k. search rules)
