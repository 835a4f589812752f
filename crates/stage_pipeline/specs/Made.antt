-- Records that are made from a number, and the pipeline that they are made for.
use Rattle.std.specs.Prelude.{◌≡◌, ℕ, zero, suc, ◌+◌, ◌*◌, ◌/◌, ◌%◌, List, [], ◌∷◌, ◌++◌, pos, Option, None, Some, codes, decimal, slice_get, sum_by, unwrap_or}
use Rattle.ho_base.specs.Numbers.{below_64_bits, magnitude_of}
use Rattle.text_rows.specs.Written.{text_of_row}
use Rattle.record_lang.specs.Pipelines.{Meaning}
use Rattle.record_lang.specs.Records.{Row}
use Rattle.record_lang.specs.Texts.{counts_line, counts_of, ending_line, run_outcomes}
use Rattle.record_lang.specs.declared.outcomes.Outcome.{Outcome}
use Rattle.record_lang.specs.declared.outcomes.Outcome.TheVariants as to
use Rattle.record_lang.specs.declared.pipelines.Joint.TheVariants as joint
use Rattle.record_lang.specs.declared.pipelines.Relation.TheVariants as rel
use Rattle.record_lang.specs.declared.pipelines.Stage.TheVariants as stage
use Rattle.stage_pipeline.specs.Runs.{AreJointPasses, RanView}

-- the state behind another
abbrev pub next_state : ℕ → ℕ
next_state state = (state * 1103515245 + 12345) % 2147483648

-- the state after so many records
abbrev pub state_after : ℕ → ℕ → ℕ
state_after seed zero = seed
state_after seed (suc k) = next_state (state_after seed k)

-- record k, made in a state: a number below 1,000 that the state tells, and its own number
abbrev pub made_row : ℕ → ℕ → Row
made_row k state = record { number = k; fields = decimal ((state / 65536) % 1000) ∷ decimal k ∷ [] }

-- the first records that are made from a seed
abbrev pub made_rows : ℕ → ℕ → List Row
made_rows zero seed = []
made_rows (suc k) seed = made_rows k seed ++ made_row k (state_after seed (suc k)) ∷ []

-- numbers of at least 500 are kept, 5 is added, and the sum is taken three times
abbrev pub made_meaning : Meaning
made_meaning = record {
  stages = stage.Keep 0 rel.AtLeast (pos 500) ∷ stage.Add 0 (pos 5) ∷ stage.Mul 0 (pos 3) ∷ [];
  joints = joint.Wait 16 ∷ joint.Wait 16 ∷ joint.Wait 16 ∷ [];
  guard = None;
}

-- the number in the first field of a result
abbrev pub number_in : Option (List ℕ) → ℕ
number_in None = 0
number_in (Some digits) = unwrap_or (below_64_bits (magnitude_of digits)) 0

abbrev pub first_number : Outcome → ℕ
first_number (to.Result row) = number_in (slice_get row.fields 0)
first_number (to.Refused number stage cause) = 0
first_number (to.Filtered number) = 0

-- what is told of these outcomes: the counts, the sum over the results, and the ending
abbrev pub made_summary : List Outcome → List ℕ
made_summary outcomes = counts_line (counts_of outcomes) ++ (text_of_row (codes "sum" ∷ decimal (sum_by first_number outcomes) ∷ []) ++ ending_line None)

-- Of a run on made records: each joint's whole pass, and the summary of the one-thread outcomes.
pub record IsMade (count seed workers : ℕ) (ran : RanView) : Type 0 where
  pub joints : AreJointPasses made_meaning (made_rows count seed) workers ran.joints
  pub text : ran.text ≡ made_summary (run_outcomes made_meaning (made_rows count seed))
