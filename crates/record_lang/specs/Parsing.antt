-- What the text of a pipeline means.
use Rattle.std.specs.Prelude.{◌≡◌, ◌<◌, ◌+◌, ◌++◌, ⊤, ℕ, List, [], ◌∷◌, length, nat_lt, ◌==◌, is_some, unwrap_or, Some, None, Result, Ok, Err, if◌then◌else◌}
use Rattle.std.specs.Str.Lines.{lines}
use Rattle.record_lang.specs.Causes.{Refusal, and_then, cause_number}
use Rattle.record_lang.specs.Lines.{line_of}
use Rattle.record_lang.specs.Pipelines.{Meaning}
use Rattle.record_lang.specs.declared.causes.Cause.{Cause}
use Rattle.record_lang.specs.declared.causes.Cause.TheVariants.{TooMany, NoStage, LooseJoint}
use Rattle.record_lang.specs.declared.lines.Line.{Line}
use Rattle.record_lang.specs.declared.lines.Line.TheVariants as line
use Rattle.record_lang.specs.declared.lines.LineFault.{LineFault}
use Rattle.record_lang.specs.declared.lines.LineFault.TheVariants as line_fault
use Rattle.record_lang.specs.declared.parsing.SpecFault.{SpecFault}
use Rattle.record_lang.specs.declared.parsing.SpecFault.TheVariants.{Refused, NoMemory}
use Rattle.record_lang.specs.declared.pipelines.Guard.{Guard}
use Rattle.record_lang.specs.declared.pipelines.Joint.{Joint}
use Rattle.record_lang.specs.declared.pipelines.Joint.TheVariants.{Wait}
use Rattle.record_lang.specs.declared.pipelines.Stage.{Stage}
use Rattle.record_lang.specs.SoFar.{SoFar}

-- one more stage, fed by the joint before it, or else by `joint wait 16`
abbrev pub with_stage : SoFar → Stage → Result SoFar Cause
with_stage before next =
    if nat_lt (length before.stages) 8 then Ok (record { stages = before.stages ++ next ∷ []; joints = before.joints ++ unwrap_or before.loose (Wait 16) ∷ []; guard = before.guard; loose = None })
    else Err TooMany

-- a joint, for the stage that comes
abbrev pub with_joint : SoFar → Joint → Result SoFar Cause
with_joint before joint = if is_some before.loose then Err TooMany else Ok (record before { loose = Some joint })

abbrev pub with_guard : SoFar → Guard → Result SoFar Cause
with_guard before guard = if is_some before.guard then Err TooMany else Ok (record before { guard = Some guard })

-- what the lines say, with what one more says
abbrev pub with_line : SoFar → Line → Result SoFar Cause
with_line before line.Nothing = Ok before
with_line before (line.Stage next) = with_stage before next
with_line before (line.Joint joint) = with_joint before joint
with_line before (line.Guard guard) = with_guard before guard

-- the same, of the line as it stands in the text
abbrev pub with_text : SoFar → List ℕ → Result SoFar Cause
with_text before text = and_then (line_of text) (with_line before)

-- before the first line
abbrev pub nothing_yet : SoFar
nothing_yet = record { stages = []; joints = []; guard = None; loose = None }

-- after the last line
abbrev pub whole : SoFar → Result Meaning Cause
whole all =
    if length all.stages == 0 then Err NoStage
    else if is_some all.loose then Err LooseJoint
    else Ok (record { stages = all.stages; joints = all.joints; guard = all.guard })

-- what was told at this place of the text
abbrev pub at_place : {A : Type 0} → ℕ → Result A Cause → Result A Refusal
at_place place (Ok a) = Ok a
at_place place (Err cause) = Err (record { place = place; cause = cause_number cause })

-- the line comes first in the text, and then what is after it
pub record IsFirstLine (first after text : List ℕ) : Type 0 where
  pub first_of : lines text ≡ first ∷ lines after
  pub shorter : length after < length text

-- the meaning of what was said so far and these lines, the first of which has this place
unfoldable pub reading_from : ℕ → SoFar → List (List ℕ) → Result Meaning Refusal
reading_from place before [] = at_place place (whole before)
reading_from place before (next ∷ rest) = and_then (at_place place (with_text before next)) (λ after. reading_from (place + 1) after rest)

-- the meaning of a text, or the first refused line with its first cause
abbrev pub reading_of : List ℕ → Result Meaning Refusal
reading_of text = reading_from 0 nothing_yet (lines text)

-- the reading was told, unless there was no memory
abbrev pub TellsPipeline : Result Meaning Refusal → Result Meaning SpecFault → Type 0
TellsPipeline reading (Ok pipeline) = reading ≡ Ok pipeline
TellsPipeline reading (Err (Refused place cause)) = reading ≡ Err (record { place = place; cause = cause })
TellsPipeline reading (Err NoMemory) = ⊤

-- the fault of a line at this place
abbrev pub fault_at : ℕ → LineFault → SpecFault
fault_at place (line_fault.Refused cause) = Refused place (cause_number cause)
fault_at place line_fault.NoMemory = NoMemory
