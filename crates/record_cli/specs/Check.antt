-- What scripts and histories mean, and what `check` and `drive` answer.
use Rattle.std.specs.Prelude.{◌≡◌, ℕ, List, [], ◌∷◌, codes, decimal, Result, Ok, Err}
use Rattle.std.specs.Result.{is_ok}
use Rattle.ho_model.specs.declared.histories.Entry.{Entry}
use Rattle.drive_kit.specs.Causes.{Refusal, RefusedRow, RowTooMany, and_then, made_of}
use Rattle.drive_kit.specs.Checks.{IsChecked}
use Rattle.drive_kit.specs.Driving.{IsDriven}
use Rattle.drive_kit.specs.Histories.{history_in, text_of}
use Rattle.drive_kit.specs.Plans.{Plan}
use Rattle.drive_kit.specs.Scripts.{script_of}
use Rattle.drive_kit.specs.declared.check.Checked.{Checked}
use Rattle.drive_kit.specs.declared.check.Checked.TheVariants as checked
use Rattle.drive_kit.specs.declared.stands.DrivenPass.{DrivenPass}
use Rattle.record_cli.specs.Answers.{Answer, IsThis, file_of, one_row, refused_place, too_large, two_files}
use Rattle.record_cli.specs.Reading.{Files, Reading, OneFile, TwoFiles}
use Rattle.record_cli.specs.declared.check.Judged.{Judged}
use Rattle.record_cli.specs.declared.finished.Shown.TheVariants as show
use Rattle.record_cli.specs.declared.status.Status.TheVariants as status

-- the row of a text that is refused
abbrev pub refusal : List ℕ → Refusal → Answer
refusal name (RefusedRow row cause) = refused_place name row cause
refusal name RowTooMany = too_large name

-- what was read, or the row of its refusal
abbrev pub read_text : {A : Type 0} → List ℕ → Result A Refusal → Result A Answer
read_text name (Ok a) = Ok a
read_text name (Err refused) = Err (refusal name refused)

-- the script that a text means
abbrev pub plan_in : List ℕ → List ℕ → Result Plan Answer
plan_in name text = read_text name (script_of text)

-- the script of a file
abbrev pub plan_of : Files → List ℕ → Result Plan Answer
plan_of files script = and_then (file_of 4194304 script (files script)) (plan_in script)

-- how it is read
abbrev pub script_reading : List ℕ → Reading
script_reading script = OneFile script 4194304

abbrev pub with_history : Plan → List Entry → Judged
with_history plan history = record { script = plan; history = history }

-- the script and the history of two files, or the answer that refuses one of them
abbrev pub judged_of : Files → List ℕ → List ℕ → Result Judged Answer
judged_of files script history =
    two_files files script 4194304 (plan_in script) history 67108864 (λ plan bytes. made_of (with_history plan) (read_text history (history_in plan.object bytes)))

-- how the two files are read
abbrev pub judged_reading : List ℕ → List ℕ → Reading
judged_reading script history = TwoFiles script 4194304 (λ text. is_ok (plan_in script text)) history 67108864

-- the row of what a history is
abbrev pub verdict : Checked → Answer
verdict (checked.Legal entries) = one_row status.Done (codes "legal" ∷ decimal entries ∷ [])
verdict (checked.Illegal at) = one_row status.Ended (codes "illegal" ∷ decimal at ∷ [])
verdict (checked.Lacking caller index) = one_row status.Ended (codes "lacking" ∷ decimal caller ∷ decimal index ∷ [])

-- the answer of `check`: what the history is beside the script
abbrev pub IsJudged : Judged → Answer → Type 0
IsJudged judged answer = (told : Checked) × IsChecked judged.script judged.history told × IsThis (verdict told) answer

-- the answer of `drive`: the text of a legal and whole history, and the whole pass that shows it
abbrev pub IsPlayed : Plan → Answer → Type 0
IsPlayed plan answer =
    (history : List Entry) × (pass : DrivenPass) × IsDriven plan history pass × IsThis (record { status = status.Done; text = text_of history; shown = show.Driven pass }) answer
