-- What has passed all joints of a pipeline is told by what each joint dropped.
use Rattle.std.specs.Prelude.{◌≡◌, ℕ, List, map, flat_map, slice_get, Some}
use Rattle.std.specs.List.Sorted.{IsPermutation}
use Rattle.record_lang.specs.Marks.{mark_of}
use Rattle.record_lang.specs.Records.{Row, AreNumbered}
use Rattle.record_lang.specs.declared.pipelines.Stage.{Stage}
use Rattle.joint_reports.specs.Reports.{dropped_of, kept_outcomes, left_of, reached}
use Rattle.joint_reports.specs.Through.{Passage, PassesJoints, lost_numbers, weight_of_rows}

-- these numbered records were fed into the joints of these stages
pub record IsFlow (stages : List Stage) (fed : List Row) (passages : List Passage) : Type 0 where
  pub numbered : AreNumbered fed
  pub passes : PassesJoints stages 1 (weight_of_rows fed) passages

-- the numbers that each joint dropped
abbrev pub drops_in : List Passage → List (List ℕ)
drops_in passages = map lost_numbers passages

-- What was written to a joint is the records that reach it, as they are there, each once; what was dropped is those of its
-- numbers, and what was taken is the others.
pub record TellsJoint (arrived : List Row) (p : Passage) : Type 0 where
  pub written : IsPermutation p.written (map mark_of arrived)
  pub lost : IsPermutation p.lost (map mark_of (dropped_of (lost_numbers p) arrived))
  pub taken : IsPermutation p.taken (map mark_of (left_of (lost_numbers p) arrived))

abbrev pub RecordsReachJoints : Type 0
RecordsReachJoints =
    (stages : List Stage) (fed : List Row) (passages : List Passage) → IsFlow stages fed passages →
    (j : ℕ) (p : Passage) → slice_get passages j ≡ Some p → TellsJoint (reached stages (drops_in passages) j fed) p

-- the outcomes that ended at the stages are those of the records that no joint dropped, each once
abbrev pub OutcomesAreKept : Type 0
OutcomesAreKept =
    (stages : List Stage) (fed : List Row) (passages : List Passage) → IsFlow stages fed passages →
    IsPermutation (flat_map (λ p. p.over) passages) (kept_outcomes stages (drops_in passages) fed)

-- the numbers that a joint dropped are numbers of fed records, each once
abbrev pub DroppedAreFed : Type 0
DroppedAreFed =
    (stages : List Stage) (fed : List Row) (passages : List Passage) → IsFlow stages fed passages →
    (j : ℕ) (p : Passage) → slice_get passages j ≡ Some p → IsPermutation (lost_numbers p) (map (λ row. row.number) (dropped_of (lost_numbers p) fed))
