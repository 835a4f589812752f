use Rattle.std.proofs.Common.{◌≡◌, ◌≤◌, ◌*◌, take}
use Rattle.std.specs.List.{sum_by}
use Rattle.stage_pipeline.specs.Made.{first_number}
use Rattle.stage_pipeline.proofs.summaries.sum_of.Given as goal

abbrev pub invariant-loop-outcome : goal.invariant-loop-outcome
invariant-loop-outcome l = record {
  sum : l.sum ≡ sum_by first_number (take l.outcome-index l.outcomes);
  range : l.sum ≤ 18446744073709551615 * l.outcome-index;
}
