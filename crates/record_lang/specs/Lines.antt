-- What a line of a pipeline's text says.
use Rattle.std.specs.Prelude.{◌≡◌, ⊤, ℕ, ℤ, List, [], ◌∷◌, Bool, ◌&&◌, ◌==◌, nat_le, codes, Result, Ok, Err, if◌then◌else◌}
use Rattle.std.specs.List.{list_all}
use Rattle.std.specs.Str.{bytes_eq}
use Rattle.record_lang.specs.Causes.{and_then, made_of, together}
use Rattle.record_lang.specs.Pipelines.{IsBuildable}
use Rattle.record_lang.specs.Words.{capacity_of, code_of, mode_of, operand_of, operation_of, place_of, relation_of, words_of}
use Rattle.record_lang.specs.declared.causes.Cause.{Cause}
use Rattle.record_lang.specs.declared.causes.Cause.TheVariants.{BadByte, UnknownLine, BadShape}
use Rattle.record_lang.specs.declared.lines.Line.{Line}
use Rattle.record_lang.specs.declared.lines.Line.TheVariants as line
use Rattle.record_lang.specs.declared.lines.LineFault.{LineFault}
use Rattle.record_lang.specs.declared.lines.LineFault.TheVariants.{Refused, NoMemory}
use Rattle.record_lang.specs.declared.pipelines.Guard.{Guard}
use Rattle.record_lang.specs.declared.pipelines.Joint.{Joint}
use Rattle.record_lang.specs.declared.pipelines.Joint.TheVariants.{Wait, DropNewest, DropOldest, DropWrite, Unbounded}
use Rattle.record_lang.specs.declared.pipelines.Stage.{Stage}
use Rattle.record_lang.specs.declared.pipelines.Stage.TheVariants as stage
use Rattle.record_lang.specs.declared.words.FullMode.{FullMode}
use Rattle.record_lang.specs.declared.words.FullMode.TheVariants as mode
use Rattle.record_lang.specs.declared.words.Operation.{Operation}
use Rattle.record_lang.specs.declared.words.Operation.TheVariants as operation

-- what is read of as many words, and of no other count
abbrev pub of_one : {A : Type 0} → (List ℕ → Result A Cause) → List (List ℕ) → Result A Cause
of_one read (a ∷ []) = read a
of_one read words = Err BadShape

abbrev pub of_two : {A : Type 0} → (List ℕ → List ℕ → Result A Cause) → List (List ℕ) → Result A Cause
of_two read (a ∷ b ∷ []) = read a b
of_two read words = Err BadShape

abbrev pub of_three : {A : Type 0} → (List ℕ → List ℕ → List ℕ → Result A Cause) → List (List ℕ) → Result A Cause
of_three read (a ∷ b ∷ c ∷ []) = read a b c
of_three read words = Err BadShape

-- `F`, `F G` and `F N`
abbrev pub one_place : List (List ℕ) → Result ℕ Cause
one_place words = of_one place_of words

abbrev pub two_places : List (List ℕ) → Result (ℕ × ℕ) Cause
two_places words = of_two (λ f g. together (place_of f) (place_of g)) words

abbrev pub place_and_operand : List (List ℕ) → Result (ℕ × ℤ) Cause
place_and_operand words = of_two (λ f n. together (place_of f) (operand_of n)) words

-- `keep F REL N`
abbrev pub keep_of : List (List ℕ) → Result Stage Cause
keep_of words = of_three (λ f relation n. made_of (λ parts. stage.Keep parts.0 parts.1.0 parts.1.1) (together (place_of f) (together (relation_of relation) (operand_of n)))) words

-- `match F TEXT`
abbrev pub match_of : List (List ℕ) → Result Stage Cause
match_of words = of_two (λ f text. made_of (λ place. stage.Match place text) (place_of f)) words

-- an operation with its arguments
unfoldable pub stage_with : Operation → List (List ℕ) → Result Stage Cause
stage_with operation.Keep arguments = keep_of arguments
stage_with operation.Match arguments = match_of arguments
stage_with operation.Add arguments = made_of (λ parts. stage.Add parts.0 parts.1) (place_and_operand arguments)
stage_with operation.Mul arguments = made_of (λ parts. stage.Mul parts.0 parts.1) (place_and_operand arguments)
stage_with operation.Sum arguments = made_of (λ parts. stage.Sum parts.0 parts.1) (two_places arguments)
stage_with operation.Cat arguments = made_of (λ parts. stage.Cat parts.0 parts.1) (two_places arguments)
stage_with operation.Copy arguments = made_of stage.Copy (one_place arguments)
stage_with operation.Cut arguments = made_of stage.Cut (one_place arguments)

-- what stands after `stage`
abbrev pub stage_of : List (List ℕ) → Result Stage Cause
stage_of [] = Err BadShape
stage_of (name ∷ arguments) = and_then (operation_of name) (λ named. stage_with named arguments)

-- a joint with this full mode and capacity
abbrev pub joint_with : FullMode → ℕ → Joint
joint_with mode.Wait capacity = Wait capacity
joint_with mode.DropNewest capacity = DropNewest capacity
joint_with mode.DropOldest capacity = DropOldest capacity
joint_with mode.DropWrite capacity = DropWrite capacity

-- what stands after `joint`: `unbounded`, or a full mode and a capacity
unfoldable pub joint_of : List (List ℕ) → Result Joint Cause
joint_of (name ∷ []) = if bytes_eq name (codes "unbounded") then Ok Unbounded else Err BadShape
joint_of (name ∷ capacity ∷ []) = made_of (λ parts. joint_with parts.0 parts.1) (together (mode_of name) (capacity_of capacity))
joint_of words = Err BadShape

-- what stands after `guard`: `F TEXT CODE`
abbrev pub guard_of : List (List ℕ) → Result Guard Cause
guard_of words = of_three (λ f text code. made_of (λ parts. record { field = parts.0; text = text; code = parts.1 }) (together (place_of f) (code_of code))) words

-- what the words of a line say together
unfoldable pub line_of_words : List (List ℕ) → Result Line Cause
line_of_words [] = Ok line.Nothing
line_of_words (first ∷ rest) =
    if bytes_eq first (codes "stage") then made_of line.Stage (stage_of rest)
    else if bytes_eq first (codes "joint") then made_of line.Joint (joint_of rest)
    else if bytes_eq first (codes "guard") then made_of line.Guard (guard_of rest)
    else Err UnknownLine

abbrev pub is_printable : ℕ → Bool
is_printable b = nat_le 32 b && nat_le b 126

-- what a line says: nothing where it is empty or begins with `#`, and else what its words say
unfoldable pub line_of : List ℕ → Result Line Cause
line_of [] = Ok line.Nothing
line_of (c ∷ rest) =
    if c == 35 then Ok line.Nothing
    else if list_all is_printable (c ∷ rest) then line_of_words (words_of (c ∷ rest))
    else Err BadByte

-- a joint of the line can be built
abbrev pub IsBuildableLine : Line → Type 0
IsBuildableLine (line.Joint joint) = IsBuildable joint
IsBuildableLine other = ⊤

-- what is expected was told, unless there was no memory
abbrev pub Tells : {A : Type 0} → Result A Cause → Result A LineFault → Type 0
Tells expected (Ok told) = expected ≡ Ok told
Tells expected (Err (Refused cause)) = expected ≡ Err cause
Tells expected (Err NoMemory) = ⊤
