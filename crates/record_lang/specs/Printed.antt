-- A pipeline written as a text.
use Rattle.std.specs.Prelude.{◌≡◌, ◌≤◌, ◌++◌, ℕ, List, [], ◌∷◌, Bool, true, ◌&&◌, nat_lt, nat_le, length, codes, decimal, All, Option, Some, None, Ok}
use Rattle.std.specs.Fmt.{signed_decimal}
use Rattle.std.specs.List.{flat_map, join_with_byte, list_all}
use Rattle.std.specs.Option.{ForSome}
use Rattle.record_lang.specs.Numbers.{fits_64_bits}
use Rattle.record_lang.specs.Parsing.{reading_of}
use Rattle.record_lang.specs.Pipelines.{HasJoints, Meaning}
use Rattle.record_lang.specs.declared.pipelines.Guard.{Guard}
use Rattle.record_lang.specs.declared.pipelines.Joint.{Joint}
use Rattle.record_lang.specs.declared.pipelines.Joint.TheVariants.{Wait, DropNewest, DropOldest, DropWrite, Unbounded}
use Rattle.record_lang.specs.declared.pipelines.Relation.{Relation}
use Rattle.record_lang.specs.declared.pipelines.Relation.TheVariants as rel
use Rattle.record_lang.specs.declared.pipelines.Stage.{Stage}
use Rattle.record_lang.specs.declared.pipelines.Stage.TheVariants as stage

abbrev pub relation_word : Relation → List ℕ
relation_word rel.Less = codes "lt"
relation_word rel.AtMost = codes "le"
relation_word rel.Equal = codes "eq"
relation_word rel.AtLeast = codes "ge"
relation_word rel.Greater = codes "gt"

-- the words of a stage's line
abbrev pub stage_words : Stage → List (List ℕ)
stage_words (stage.Keep f relation n) = codes "stage" ∷ codes "keep" ∷ decimal f ∷ relation_word relation ∷ signed_decimal n ∷ []
stage_words (stage.Match f text) = codes "stage" ∷ codes "match" ∷ decimal f ∷ text ∷ []
stage_words (stage.Add f n) = codes "stage" ∷ codes "add" ∷ decimal f ∷ signed_decimal n ∷ []
stage_words (stage.Mul f n) = codes "stage" ∷ codes "mul" ∷ decimal f ∷ signed_decimal n ∷ []
stage_words (stage.Sum f g) = codes "stage" ∷ codes "sum" ∷ decimal f ∷ decimal g ∷ []
stage_words (stage.Cat f g) = codes "stage" ∷ codes "cat" ∷ decimal f ∷ decimal g ∷ []
stage_words (stage.Copy f) = codes "stage" ∷ codes "copy" ∷ decimal f ∷ []
stage_words (stage.Cut f) = codes "stage" ∷ codes "cut" ∷ decimal f ∷ []

abbrev pub joint_words : Joint → List (List ℕ)
joint_words (Wait capacity) = codes "joint" ∷ codes "wait" ∷ decimal capacity ∷ []
joint_words (DropNewest capacity) = codes "joint" ∷ codes "dropnewest" ∷ decimal capacity ∷ []
joint_words (DropOldest capacity) = codes "joint" ∷ codes "dropoldest" ∷ decimal capacity ∷ []
joint_words (DropWrite capacity) = codes "joint" ∷ codes "dropwrite" ∷ decimal capacity ∷ []
joint_words Unbounded = codes "joint" ∷ codes "unbounded" ∷ []

abbrev pub guard_words : Guard → List (List ℕ)
guard_words guard = codes "guard" ∷ decimal guard.field ∷ guard.text ∷ decimal guard.code ∷ []

-- each stage behind the joint that feeds it
abbrev pub stage_lines : List Stage → List Joint → List (List (List ℕ))
stage_lines [] joints = []
stage_lines (next ∷ stages) [] = []
stage_lines (next ∷ stages) (joint ∷ joints) = joint_words joint ∷ stage_words next ∷ stage_lines stages joints

-- the words of each line of a pipeline
abbrev pub pipeline_lines : List Stage → List Joint → Option Guard → List (List (List ℕ))
pipeline_lines stages joints None = stage_lines stages joints
pipeline_lines stages joints (Some guard) = guard_words guard ∷ stage_lines stages joints

-- words with a space between each two
abbrev pub line_text : List (List ℕ) → List ℕ
line_text words = join_with_byte 32 words

-- the text of a pipeline: each line ended by LF
abbrev pub pipeline_text : Meaning → List ℕ
pipeline_text m = flat_map (λ words. line_text words ++ 10 ∷ []) (pipeline_lines m.stages m.joints m.guard)

-- what a word may be: one byte or more, each from 0x21 to 0x7E
abbrev pub is_word_byte : ℕ → Bool
is_word_byte b = nat_le 33 b && nat_le b 126

abbrev pub is_word : List ℕ → Bool
is_word word = nat_lt 0 (length word) && list_all is_word_byte word

-- what a text can say: places up to 99, numbers of 64 bits, words
abbrev pub IsSayable : Stage → Type 0
IsSayable (stage.Keep f relation n) = (f ≤ 99) × (fits_64_bits n ≡ true)
IsSayable (stage.Match f text) = (f ≤ 99) × (is_word text ≡ true)
IsSayable (stage.Add f n) = (f ≤ 99) × (fits_64_bits n ≡ true)
IsSayable (stage.Mul f n) = (f ≤ 99) × (fits_64_bits n ≡ true)
IsSayable (stage.Sum f g) = (f ≤ 99) × (g ≤ 99)
IsSayable (stage.Cat f g) = (f ≤ 99) × (g ≤ 99)
IsSayable (stage.Copy f) = f ≤ 99
IsSayable (stage.Cut f) = f ≤ 99

pub record IsSayableGuard (guard : Guard) : Type 0 where
  pub field : guard.field ≤ 99
  pub text : is_word guard.text ≡ true
  pub least : 1 ≤ guard.code
  pub most : guard.code ≤ 65535

pub record IsSayablePipeline (m : Meaning) : Type 0 where
  pub joints : HasJoints m.stages m.joints
  pub stages : All IsSayable m.stages
  pub guard : ForSome m.guard IsSayableGuard

-- a pipeline that is written as a text is read as itself
abbrev pub PipelinesAreReadBack : Type 0
PipelinesAreReadBack = (m : Meaning) → IsSayablePipeline m → reading_of (pipeline_text m) ≡ Ok m
