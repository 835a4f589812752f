-- All crews and the feeder side by side.
use Rattle.std.specs.Prelude.{◌≡◌, ℕ, ◌+◌, ◌≤◌, List, All, vec_capacity, vec_len}
use Rattle.atomic_table.specs.Seated.{TableId}
use Rattle.record_lang.specs.Pipelines.{Meaning}
use Rattle.stage_pipeline.specs.Crews.{AddsCrewEnds, FeederEnds, IsKit, IsNewAt}
use Rattle.stage_pipeline.specs.declared.flow.Flow.{Flow}
use Rattle.stage_pipeline.specs.declared.flow.Start.{Start}

-- what is to run, with room for the end of each crew
pub record MayFlow (stages : ℕ) (joints : List TableId) (s : Start) : Type 0 where
  pub room : vec_len s.ends + vec_len s.kits ≤ vec_capacity s.ends
  pub are_kits : All (IsKit stages joints) s.kits.items
  pub new : IsNewAt joints 0 1 s.feed.write

-- what came of it
pub record HasFlowed (pipeline : Meaning) (s : Start) (f : Flow) : Type 0 where
  pub adds : AddsCrewEnds pipeline s.kits.items s.ends.items f.ends.items
  pub keeps : vec_capacity f.ends ≡ vec_capacity s.ends
  pub fed_is : FeederEnds s.feed f.fed
