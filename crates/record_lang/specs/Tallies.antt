-- The counters of a run.
use Rattle.std.specs.Prelude.{◌≡◌, ◌+◌, if◌then◌else◌}
use Rattle.record_lang.specs.Texts.{Counts, is_filtered, is_refused, is_result}
use Rattle.record_lang.specs.declared.outcomes.Outcome.{Outcome}
use Rattle.record_lang.specs.declared.tallies.Tally.{Tally}

abbrev pub counts_in : Tally → Counts
counts_in t = record { fed = t.fed; results = t.results; refused = t.refused; filtered = t.filtered }

-- one more outcome is counted
pub record TalliesOne (old new : Tally) (outcome : Outcome) : Type 0 where
  pub fed : new.fed ≡ old.fed + 1
  pub results : new.results ≡ old.results + (if is_result outcome then 1 else 0)
  pub refused : new.refused ≡ old.refused + (if is_refused outcome then 1 else 0)
  pub filtered : new.filtered ≡ old.filtered + (if is_filtered outcome then 1 else 0)
