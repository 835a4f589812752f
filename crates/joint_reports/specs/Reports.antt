-- Which records reach each joint where joints may drop, and what is then told of a run. The stages and joints of a pipeline are
-- counted from 1, so that joint j + 1 has the index j. A report is a list: at each joint's index the numbers that it dropped.
use Rattle.std.specs.Prelude.{ℕ, ◌+◌, ◌==◌, List, [], ◌∷◌, ◌++◌, Bool, true, false, not, map, take, Option, None, if◌then◌else◌}
use Rattle.std.specs.List.{filter, filter_map, list_any}
use Rattle.record_lang.specs.Guards.{fed_rows}
use Rattle.record_lang.specs.Outcomes.{record_outcome, row_after}
use Rattle.record_lang.specs.Pipelines.{Meaning}
use Rattle.record_lang.specs.Records.{Row}
use Rattle.record_lang.specs.Texts.{Told}
use Rattle.record_lang.specs.declared.outcomes.Outcome.{Outcome}
use Rattle.record_lang.specs.declared.pipelines.Joint.{Joint}
use Rattle.record_lang.specs.declared.pipelines.Joint.TheVariants.{Wait, DropNewest, DropOldest, DropWrite, Unbounded}
use Rattle.record_lang.specs.declared.pipelines.Stage.{Stage}
use Rattle.record_lang.specs.declared.reports.Dropped.{Dropped}

-- the record has one of these numbers
abbrev pub has_number : List ℕ → Row → Bool
has_number numbers row = list_any (λ n. n == row.number) numbers

-- the record was dropped at none of the joints that dropped these numbers
abbrev pub is_kept : List (List ℕ) → Row → Bool
is_kept drops row = not (list_any (λ numbers. has_number numbers row) drops)

-- the record as it comes to joint j + 1: it was dropped at no earlier joint, and stages 1 to j neither refuse nor filter it
abbrev pub arrival : List Stage → List (List ℕ) → ℕ → Row → Option Row
arrival stages drops j row = if is_kept (take j drops) row then row_after stages j row else None

-- the records that reach joint j + 1, as they are there
abbrev pub reached : List Stage → List (List ℕ) → ℕ → List Row → List Row
reached stages drops j fed = filter_map (arrival stages drops j) fed

-- of the records that reached a joint, those that it dropped and those that it did not
abbrev pub dropped_of : List ℕ → List Row → List Row
dropped_of numbers rows = filter (has_number numbers) rows

abbrev pub left_of : List ℕ → List Row → List Row
left_of numbers rows = filter (λ row. not (has_number numbers row)) rows

-- the outcomes of the records that no joint dropped
abbrev pub kept_outcomes : List Stage → List (List ℕ) → List Row → List Outcome
kept_outcomes stages drops fed = map (record_outcome stages) (filter (is_kept drops) fed)

-- the records that a joint dropped, in order of number
abbrev pub dropped_at : ℕ → List ℕ → List Row → List Dropped
dropped_at joint numbers fed = map (λ row. record { number = row.number; joint = joint }) (dropped_of numbers fed)

-- those of this joint and of the joints behind it
abbrev pub dropped_from : ℕ → List (List ℕ) → List Row → List Dropped
dropped_from joint [] fed = []
dropped_from joint (numbers ∷ drops) fed = dropped_at joint numbers fed ++ dropped_from (joint + 1) drops fed

-- whether a joint may drop
abbrev pub may_drop : Joint → Bool
may_drop (Wait capacity) = false
may_drop (DropNewest capacity) = true
may_drop (DropOldest capacity) = true
may_drop (DropWrite capacity) = true
may_drop Unbounded = false

abbrev pub has_drop_joint : List Joint → Bool
has_drop_joint joints = list_any may_drop joints

-- what is told of a run on these records
abbrev pub told_of : Meaning → List (List ℕ) → List Row → Told
told_of pipeline drops rows = record {
  outcomes = kept_outcomes pipeline.stages drops (fed_rows pipeline.guard rows);
  has_drops = has_drop_joint pipeline.joints;
  dropped = dropped_from 1 drops (fed_rows pipeline.guard rows);
}
