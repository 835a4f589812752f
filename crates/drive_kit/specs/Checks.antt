-- Whether a history is legal, and whole for a script.
use Rattle.std.specs.Prelude.{◌≡◌, ◌≢◌, ◌<◌, ℕ, List, [], ◌∷◌, length, take, slice_get, ◌==◌, if◌then◌else◌}
use Rattle.ho_base.specs.Marks.{number_priority}
use Rattle.ho_model.specs.declared.histories.Call.{Call}
use Rattle.ho_model.specs.declared.histories.Entry.{Entry}
use Rattle.ho_model.specs.declared.histories.Verdict.TheVariants.{IllegalAt}
use Rattle.ho_model.specs.Histories.{IsLegal}
use Rattle.ho_model.specs.Verdicts.{IsVerdict}
use Rattle.ho_model.specs.Written.{history_of}
use Rattle.drive_kit.specs.Plans.{Plan, calls_by}
use Rattle.drive_kit.specs.declared.check.Checked.{Checked}
use Rattle.drive_kit.specs.declared.check.Checked.TheVariants as checked

-- the calls in one caller's part of a history, in order
abbrev pub calls_in_part : ℕ → List Entry → List Call
calls_in_part caller [] = []
calls_in_part caller (e ∷ es) = if e.caller == caller then e.call ∷ calls_in_part caller es else calls_in_part caller es

-- each caller below this number made the calls of its rows
abbrev pub AgreeBelow : ℕ → Plan → List Entry → Type 0
AgreeBelow most plan history = (caller : ℕ) → caller < most → calls_in_part caller history ≡ calls_by caller plan.rows

-- each caller made the calls of its rows, each once, in order, and no others
abbrev pub IsWhole : Plan → List Entry → Type 0
IsWhole plan history = (caller : ℕ) → calls_in_part caller history ≡ calls_by caller plan.rows

-- two lists of calls differ at this place, where one of them may have ended, and at none before it
pub record IsFirstDifference (index : ℕ) (a b : List Call) : Type 0 where
  pub before : take index a ≡ take index b
  pub here : slice_get a index ≢ slice_get b index

-- the least caller whose calls are not those of its rows, and where they first differ
pub record IsFirstLack (caller index : ℕ) (plan : Plan) (history : List Entry) : Type 0 where
  pub below : AgreeBelow caller plan history
  pub lack : IsFirstDifference index (calls_in_part caller history) (calls_by caller plan.rows)

abbrev pub IsLegalFor : Plan → List Entry → Type 0
IsLegalFor plan history = IsLegal number_priority plan.object (history_of plan.object history)

-- what is told of a history
abbrev pub IsChecked : Plan → List Entry → Checked → Type 0
IsChecked plan history (checked.Legal entries) = IsLegalFor plan history × IsWhole plan history × (entries ≡ length history)
IsChecked plan history (checked.Illegal at) = IsVerdict plan.object (history_of plan.object history) (IllegalAt at)
IsChecked plan history (checked.Lacking caller index) = IsLegalFor plan history × IsFirstLack caller index plan history
