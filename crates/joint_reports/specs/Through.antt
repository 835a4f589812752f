-- What passes the joints of a pipeline and the stages behind them, by weight.
use Rattle.std.specs.Prelude.{◌≡◌, ℕ, ◌+◌, List, [], ◌∷◌, Bool, true, false, cond, map, sum_by, Option, None, Some}
use Rattle.ho_base.specs.Marks.{Mark, number_of}
use Rattle.record_lang.specs.Marks.{mark_of, row_of_mark}
use Rattle.record_lang.specs.Outcomes.{stage_outcome}
use Rattle.record_lang.specs.Records.{Row}
use Rattle.record_lang.specs.declared.outcomes.Outcome.{Outcome}
use Rattle.record_lang.specs.declared.outcomes.Outcome.TheVariants as to
use Rattle.record_lang.specs.declared.pipelines.Stage.{Stage}

-- what stage j makes of the record of a mark
abbrev pub made_of_row : Stage → ℕ → Option Row → Outcome
made_of_row what j None = to.Filtered 0
made_of_row what j (Some row) = stage_outcome what j row

abbrev pub says : Stage → ℕ → Mark → Outcome
says what j m = made_of_row what j (row_of_mark m)

-- what goes on from a stage weighs, and what ends there; at the last stage all ends
abbrev pub on_weight : (Mark → ℕ) → Outcome → ℕ
on_weight h (to.Result row) = h (mark_of row)
on_weight h (to.Refused number stage cause) = 0
on_weight h (to.Filtered number) = 0

abbrev pub off_weight : (Outcome → ℕ) → Outcome → ℕ
off_weight k (to.Result row) = 0
off_weight k (to.Refused number stage cause) = k (to.Refused number stage cause)
off_weight k (to.Filtered number) = k (to.Filtered number)

abbrev pub goes : Bool → (Mark → ℕ) → Outcome → ℕ
goes last h o = cond last 0 (on_weight h o)

abbrev pub ends : Bool → (Outcome → ℕ) → Outcome → ℕ
ends last k o = cond last (k o) (off_weight k o)

-- what passed one joint and the stage that it feeds: the marks of what was written, taken and dropped, and the outcomes that
-- ended at the stage
pub record Passage : Type 0 where
  pub written : List Mark
  pub taken : List Mark
  pub lost : List Mark
  pub over : List Outcome

-- the numbers that a joint dropped
abbrev pub lost_numbers : Passage → List ℕ
lost_numbers p = map number_of p.lost

-- What came to joint j was written, each once. Of what was written each was taken or dropped, once. And of what was taken each
-- went on or ended at stage j, once.
pub record PassesJoint (what : Stage) (j : ℕ) (last : Bool) (arriving : (Mark → ℕ) → ℕ) (p : Passage) : Type 0 where
  pub arrives : (h : Mark → ℕ) → sum_by h p.written ≡ arriving h
  pub adds_up : (h : Mark → ℕ) → sum_by h p.written ≡ sum_by h p.taken + sum_by h p.lost
  pub ends_here : (k : Outcome → ℕ) → sum_by k p.over ≡ sum_by (λ m. ends last k (says what j m)) p.taken

-- what goes on from stage j, if it is not the last
abbrev pub going_on : Stage → ℕ → Passage → (Mark → ℕ) → ℕ
going_on what j p h = sum_by (λ m. goes false h (says what j m)) p.taken

-- so it is at each joint, from stage j on
abbrev pub PassesJoints : List Stage → ℕ → ((Mark → ℕ) → ℕ) → List Passage → Type 0
PassesJoints (what ∷ []) j arriving (p ∷ []) = PassesJoint what j true arriving p
PassesJoints (what ∷ (next ∷ stages)) j arriving (p ∷ ps) = PassesJoint what j false arriving p × PassesJoints (next ∷ stages) (j + 1) (going_on what j p) ps
PassesJoints _ j arriving _ = ⊥

-- the weight of records by their marks
abbrev pub weight_of_rows : List Row → (Mark → ℕ) → ℕ
weight_of_rows rows h = sum_by (λ row. h (mark_of row)) rows
