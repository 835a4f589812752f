-- The words of a line, and what each may stand for.
use Rattle.std.specs.Prelude.{ℕ, ℤ, List, [], ◌∷◌, Bool, ◌&&◌, ◌==◌, nat_lt, nat_le, length, filter, codes, Result, Ok, Err, if◌then◌else◌}
use Rattle.std.specs.List.{slice_split}
use Rattle.std.specs.Option.{ok_or}
use Rattle.std.specs.Str.{all_ascii_digits, bytes_eq}
use Rattle.std.specs.Str.Parse.{digits_value}
use Rattle.record_lang.specs.Numbers.{field_number}
use Rattle.record_lang.specs.declared.causes.Cause.{Cause}
use Rattle.record_lang.specs.declared.causes.Cause.TheVariants.{BadShape, BadNumber}
use Rattle.record_lang.specs.declared.words.FullMode.{FullMode}
use Rattle.record_lang.specs.declared.words.FullMode.TheVariants as mode
use Rattle.record_lang.specs.declared.words.Operation.{Operation}
use Rattle.record_lang.specs.declared.words.Operation.TheVariants as operation
use Rattle.record_lang.specs.declared.pipelines.Relation.{Relation}
use Rattle.record_lang.specs.declared.pipelines.Relation.TheVariants.{Less, AtMost, Equal, AtLeast, Greater}

-- what stands between spaces, where that is anything
abbrev pub words_of : List ℕ → List (List ℕ)
words_of line = filter (λ word. nat_lt 0 (length word)) (slice_split (λ b. b == 32) line)

-- whether a word is 1 to 20 digits
abbrev pub is_digits : List ℕ → Bool
is_digits word = nat_le 1 (length word) && nat_le (length word) 20 && all_ascii_digits word

abbrev pub in_range : ℕ → ℕ → ℕ → Result ℕ Cause
in_range least most n = if nat_le least n && nat_le n most then Ok n else Err BadNumber

-- the number from least to most that the digits of a word stand for
abbrev pub number_within : ℕ → ℕ → List ℕ → Result ℕ Cause
number_within least most word = if is_digits word then in_range least most (digits_value 10 word) else Err BadShape

-- a field's place in its record
unfoldable pub place_of : List ℕ → Result ℕ Cause
place_of word = number_within 0 99 word

-- the capacity of a joint
unfoldable pub capacity_of : List ℕ → Result ℕ Cause
capacity_of word = number_within 1 65536 word

-- the code of a guard
unfoldable pub code_of : List ℕ → Result ℕ Cause
code_of word = number_within 1 65535 word

-- a word without the minus at its head, if it has one
abbrev pub without_minus : List ℕ → List ℕ
without_minus [] = []
without_minus (c ∷ rest) = if c == 45 then rest else c ∷ rest

-- the number that a minus or none and 1 to 20 digits stand for
unfoldable pub operand_of : List ℕ → Result ℤ Cause
operand_of word = if is_digits (without_minus word) then ok_or (field_number word) BadNumber else Err BadShape

unfoldable pub relation_of : List ℕ → Result Relation Cause
relation_of word =
    if bytes_eq word (codes "lt") then Ok Less
    else if bytes_eq word (codes "le") then Ok AtMost
    else if bytes_eq word (codes "eq") then Ok Equal
    else if bytes_eq word (codes "ge") then Ok AtLeast
    else if bytes_eq word (codes "gt") then Ok Greater
    else Err BadShape

-- the operation that a stage names
unfoldable pub operation_of : List ℕ → Result Operation Cause
operation_of word =
    if bytes_eq word (codes "keep") then Ok operation.Keep
    else if bytes_eq word (codes "match") then Ok operation.Match
    else if bytes_eq word (codes "add") then Ok operation.Add
    else if bytes_eq word (codes "mul") then Ok operation.Mul
    else if bytes_eq word (codes "sum") then Ok operation.Sum
    else if bytes_eq word (codes "cat") then Ok operation.Cat
    else if bytes_eq word (codes "copy") then Ok operation.Copy
    else if bytes_eq word (codes "cut") then Ok operation.Cut
    else Err BadShape

-- the full mode that a joint names
unfoldable pub mode_of : List ℕ → Result FullMode Cause
mode_of word =
    if bytes_eq word (codes "wait") then Ok mode.Wait
    else if bytes_eq word (codes "dropnewest") then Ok mode.DropNewest
    else if bytes_eq word (codes "dropoldest") then Ok mode.DropOldest
    else if bytes_eq word (codes "dropwrite") then Ok mode.DropWrite
    else Err BadShape
