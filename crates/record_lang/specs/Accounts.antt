-- What is told of the fed records adds up.
use Rattle.std.specs.Prelude.{◌≡◌, ◌+◌, List, [], ◌∷◌, All, map}
use Rattle.std.specs.List.{count_by}
use Rattle.record_lang.specs.Guards.{fed_rows}
use Rattle.record_lang.specs.Outcomes.{number_of_outcome}
use Rattle.record_lang.specs.Pipelines.{Meaning}
use Rattle.record_lang.specs.Records.{Row}
use Rattle.record_lang.specs.Texts.{Counts, counts_of, is_filtered, is_refused, is_result, run_outcomes}
use Rattle.record_lang.specs.declared.outcomes.Outcome.{Outcome}

abbrev pub AddsUp : Counts → Type 0
AddsUp c = c.fed ≡ c.results + c.refused + c.filtered

-- an outcome is a result, a refusal or filtered, and only one of them
abbrev pub IsOneOfThree : Outcome → Type 0
IsOneOfThree outcome = count_by (λ is. is) (is_result outcome ∷ is_refused outcome ∷ is_filtered outcome ∷ []) ≡ 1

-- of a run: the outcomes are those of the fed records, one for each in their order
pub record TellsEachFedRecord (pipeline : Meaning) (rows : List Row) : Type 0 where
  pub numbers : map number_of_outcome (run_outcomes pipeline rows) ≡ map (λ row. row.number) (fed_rows pipeline.guard rows)
  pub kinds : All IsOneOfThree (run_outcomes pipeline rows)
  pub sum : AddsUp (counts_of (run_outcomes pipeline rows))

abbrev pub EachFedRecordIsToldOnce : Type 0
EachFedRecordIsToldOnce = (pipeline : Meaning) (rows : List Row) → TellsEachFedRecord pipeline rows
