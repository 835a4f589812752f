-- Why a pipeline's text is refused.
use Rattle.std.specs.Prelude.{ℕ, nat_le, Result, Ok, Err, if◌then◌else◌}
use Rattle.record_lang.specs.declared.causes.Cause.{Cause}
use Rattle.record_lang.specs.declared.causes.Cause.TheVariants.{BadByte, UnknownLine, BadShape, BadNumber, TooMany, NoStage, LooseJoint}

-- the number by which a cause is told; of two causes of one line the lower is told
abbrev pub cause_number : Cause → ℕ
cause_number BadByte = 1
cause_number UnknownLine = 2
cause_number BadShape = 3
cause_number BadNumber = 4
cause_number TooMany = 5
cause_number NoStage = 6
cause_number LooseJoint = 7

abbrev pub first_cause : Cause → Cause → Cause
first_cause a b = if nat_le (cause_number a) (cause_number b) then a else b

-- where a text is refused, the first line being line 0, and the number of the cause
pub record Refusal : Type 0 where
  pub place : ℕ
  pub cause : ℕ

-- two parts of a line together, or the first of their causes
abbrev pub together : {A B : Type 0} → Result A Cause → Result B Cause → Result (A × B) Cause
together (Ok a) (Ok b) = Ok (a, b)
together (Ok a) (Err d) = Err d
together (Err c) (Ok b) = Err c
together (Err c) (Err d) = Err (first_cause c d)

-- what is made of a part that is not refused
abbrev pub made_of : {A B : Type 0} → (A → B) → Result A Cause → Result B Cause
made_of make (Ok a) = Ok (make a)
made_of make (Err cause) = Err cause

-- what follows where nothing is refused
abbrev pub and_then : {A B E : Type 0} → Result A E → (A → Result B E) → Result B E
and_then (Ok a) next = next a
and_then (Err refusal) next = Err refusal
