-- What each task answers, and how it reads its files.
use Rattle.std.specs.Prelude.{◌≡◌, ◌⊎◌, ⊤, ℕ, List, Bool, true, false, Option, Some, None, Result, Ok, Err}
use Rattle.drive_kit.specs.Plans.{Plan}
use Rattle.stage_pipeline.specs.Reports.{has_drop_joint}
use Rattle.stage_pipeline.specs.Made.{IsMade}
use Rattle.stage_pipeline.specs.Runs.{IsRan, RanView}
use Rattle.record_cli.specs.Answers.{Answer, IsAnswerOf, IsThis, usage}
use Rattle.record_cli.specs.Check.{IsJudged, IsPlayed, judged_of, judged_reading, plan_of, script_reading}
use Rattle.record_cli.specs.Commands.{Task, Plain, Run, Drive, Check, Made, is_reading}
use Rattle.record_cli.specs.Inputs.{end_status, inputs_of, inputs_reading, plain_text}
use Rattle.record_cli.specs.Reading.{Files, Reading, NoFile}
use Rattle.record_cli.specs.Statuses.{is_refusal}
use Rattle.record_cli.specs.declared.check.Judged.{Judged}
use Rattle.record_cli.specs.declared.finished.Shown.TheVariants as show
use Rattle.record_cli.specs.declared.inputs.Inputs.{Inputs}
use Rattle.record_cli.specs.declared.status.Status.{Status}
use Rattle.record_cli.specs.declared.status.Status.TheVariants as status

-- the answer of `run`: the text of a run of the pipeline over the records with so many workers, and the whole pass of each joint
abbrev pub IsRun : ℕ → Inputs → Answer → Type 0
IsRun workers inputs answer =
    (ran : RanView) × IsRan inputs.pipeline inputs.records workers ran × IsThis (record { status = end_status inputs; text = ran.text; shown = show.Ran ran }) answer

-- the answer of `made`: the summary of a run on made records, and the whole pass of each joint
abbrev pub IsMadeRun : ℕ → ℕ → ℕ → Answer → Type 0
IsMadeRun count seed workers answer =
    (ran : RanView) × IsMade count seed workers ran × IsThis (record { status = status.Done; text = ran.text; shown = show.Ran ran }) answer

-- the answer for a task, where the files are these
abbrev pub IsTaskAnswer : Files → Option Task → Answer → Type 0
IsTaskAnswer files None answer = IsThis usage answer
IsTaskAnswer files (Some (Plain pipe file)) answer = IsAnswerOf (λ inputs. IsThis (plain_text inputs)) (inputs_of files pipe file) answer
IsTaskAnswer files (Some (Run pipe file workers)) answer = IsAnswerOf (IsRun workers) (inputs_of files pipe file) answer
IsTaskAnswer files (Some (Drive script)) answer = IsAnswerOf IsPlayed (plan_of files script) answer
IsTaskAnswer files (Some (Check script history)) answer = IsAnswerOf IsJudged (judged_of files script history) answer
IsTaskAnswer files (Some (Made count seed workers)) answer = IsMadeRun count seed workers answer

-- how a task reads its files
abbrev pub reading_for : Option Task → Reading
reading_for None = NoFile
reading_for (Some (Plain pipe file)) = inputs_reading pipe file
reading_for (Some (Run pipe file workers)) = inputs_reading pipe file
reading_for (Some (Drive script)) = script_reading script
reading_for (Some (Check script history)) = judged_reading script history
reading_for (Some (Made count seed workers)) = NoFile

-- whether a status is that of a command that went to its end
abbrev pub is_done : Status → Bool
is_done status.Done = true
is_done other = false

abbrev pub is_end : Status → Bool
is_end status.Done = true
is_end status.Ended = true
is_end other = false

-- whether something is shown beside a task's text at this status
abbrev pub is_showing : Option Task → Status → Bool
is_showing None s = false
is_showing (Some (Plain pipe file)) s = false
is_showing (Some (Run pipe file workers)) s = is_end s
is_showing (Some (Drive script)) s = is_done s
is_showing (Some (Check script history)) s = false
is_showing (Some (Made count seed workers)) s = is_done s

-- what a task answers where no file is refused, whatever the files hold: the one-thread text of some pipeline and records, a run
-- of some with the task's workers, the history of some script, the verdict on some history, or a run on the records that the
-- task's numbers make
abbrev pub IsAnswerTo : Option Task → Answer → Type 0
IsAnswerTo None answer = IsThis usage answer
IsAnswerTo (Some (Plain pipe file)) answer = (inputs : Inputs) × IsThis (plain_text inputs) answer
IsAnswerTo (Some (Run pipe file workers)) answer = (inputs : Inputs) × IsRun workers inputs answer
IsAnswerTo (Some (Drive script)) answer = (plan : Plan) × IsPlayed plan answer
IsAnswerTo (Some (Check script history)) answer = (judged : Judged) × IsJudged judged answer
IsAnswerTo (Some (Made count seed workers)) answer = IsMadeRun count seed workers answer

-- the row of a refused file, beside which nothing is shown
pub record IsRefusalRow (answer : Answer) : Type 0 where
  pub status : is_refusal answer.status ≡ true
  pub shown : answer.shown ≡ show.Nothing

-- what a task may answer, whatever the files hold: this, or, where it reads files, the row of a refused one
abbrev pub MayAnswer : Option Task → Answer → Type 0
MayAnswer task answer = IsAnswerTo task answer ⊎ ((is_reading task ≡ true) × IsRefusalRow answer)

-- no joint of the pipeline may drop
abbrev pub IsDropless : Result Inputs Answer → Type 0
IsDropless (Ok inputs) = has_drop_joint inputs.pipeline.joints ≡ false
IsDropless (Err refusal) = ⊤
