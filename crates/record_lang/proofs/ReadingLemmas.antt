-- The reading of a text, one line at a time.
use Rattle.std.proofs.Common.{◌≡◌, ◌+◌, ◌∙◌, ℕ, List, [], Result, Ok, Err, ap, sym}
use Rattle.std.specs.Str.Lines.{lines}
use Rattle.record_lang.specs.Causes.{Refusal, and_then}
use Rattle.record_lang.specs.Lines.{Tells}
use Rattle.record_lang.specs.Parsing.{at_place, fault_at, reading_from, whole, with_text, IsFirstLine, TellsPipeline}
use Rattle.record_lang.specs.Pipelines.{Meaning}
use Rattle.record_lang.specs.SoFar.{SoFar}
use Rattle.record_lang.specs.declared.causes.Cause.{Cause}
use Rattle.record_lang.specs.declared.lines.LineFault.{LineFault}
use Rattle.record_lang.specs.declared.lines.LineFault.TheVariants as line_fault
use Rattle.record_lang.specs.declared.parsing.SpecFault.{SpecFault}

-- with a first line
reading_from-first : (place : ℕ) (before : SoFar) (first left text : List ℕ) (told : Result SoFar Cause) → IsFirstLine first left text → with_text before first ≡ told → reading_from place before (lines text) ≡ and_then (at_place place told) (λ after. reading_from (place + 1) after (lines left))
unfolding reading_from
reading_from-first place before first left text told stands tells = ap (reading_from place before) stands.first_of ∙ ap (λ z. and_then (at_place place z) (λ after. reading_from (place + 1) after (lines left))) tells

-- one line more
pub reading_from-told : (place : ℕ) (before after : SoFar) (first left text : List ℕ) (reading : Result Meaning Refusal) → IsFirstLine first left text → with_text before first ≡ Ok after → reading_from place before (lines text) ≡ reading → reading_from (place + 1) after (lines left) ≡ reading
reading_from-told place before after first left text reading stands tells so_far = sym (reading_from-first place before first left text (Ok after) stands tells) ∙ so_far

-- a line that is refused, or for which there is no memory
pub reading_from-refused : (place : ℕ) (before : SoFar) (first left text : List ℕ) (fault : LineFault) (told : SpecFault) (reading : Result Meaning Refusal) → IsFirstLine first left text → Tells (with_text before first) (Err fault) → told ≡ fault_at place fault → reading_from place before (lines text) ≡ reading → TellsPipeline reading (Err told)
reading_from-refused place before first left text (line_fault.Refused cause) told reading stands tells is so_far = rw is (sym so_far ∙ reading_from-first place before first left text (Err cause) stands tells)
reading_from-refused place before first left text line_fault.NoMemory told reading stands tells is so_far = rw is tt

at-end : (place : ℕ) (all : SoFar) (text : List ℕ) → lines text ≡ [] → reading_from place all (lines text) ≡ at_place place (whole all)
unfolding reading_from
at-end place all text done = ap (reading_from place all) done

-- after the last line
pub reading_from-end : (place : ℕ) (all : SoFar) (text : List ℕ) (result : Result Meaning SpecFault) (reading : Result Meaning Refusal) → lines text ≡ [] → TellsPipeline (at_place place (whole all)) result → reading_from place all (lines text) ≡ reading → TellsPipeline reading result
reading_from-end place all text result reading done tells so_far = let e = sym so_far ∙ at-end place all text done in rw e tells
