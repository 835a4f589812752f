-- What becomes of a record.
use Rattle.std.specs.Prelude.{◌≡◌, ◌+◌, ◌+ℤ◌, ◌*ℤ◌, ℕ, ℤ, List, [], ◌∷◌, ◌++◌, Bool, true, false, int_lt, int_le, slice_get, slice_set, length, take, is_some, nat_lt, Option, Some, None, Result, Ok, Err, if◌then◌else◌}
use Rattle.std.specs.List.{remove, sum_by}
use Rattle.std.specs.Ordering.{int_eq}
use Rattle.std.specs.Str.{bytes_eq}
use Rattle.std.specs.Fmt.{signed_decimal}
use Rattle.record_lang.specs.Numbers.{field_number, within_64_bits}
use Rattle.record_lang.specs.Records.{Row}
use Rattle.record_lang.specs.declared.pipelines.Relation.{Relation}
use Rattle.record_lang.specs.declared.pipelines.Relation.TheVariants as rel
use Rattle.record_lang.specs.declared.pipelines.Stage.{Stage}
use Rattle.record_lang.specs.declared.pipelines.Stage.TheVariants as stage
use Rattle.record_lang.specs.declared.outcomes.Outcome.{Outcome}
use Rattle.record_lang.specs.declared.outcomes.Outcome.TheVariants as to
use Rattle.record_lang.specs.declared.outcomes.RecordCause.{RecordCause}
use Rattle.record_lang.specs.declared.outcomes.RecordCause.TheVariants as cause

abbrev pub record_cause_number : RecordCause → ℕ
record_cause_number cause.NoField = 1
record_cause_number cause.NotNumber = 2
record_cause_number cause.Overflow = 3
record_cause_number cause.TooLong = 4

abbrev pub relation_holds : Relation → ℤ → ℤ → Bool
relation_holds rel.Less a b = int_lt a b
relation_holds rel.AtMost a b = int_le a b
relation_holds rel.Equal a b = int_eq a b
relation_holds rel.AtLeast a b = int_le b a
relation_holds rel.Greater a b = int_lt b a

abbrev pub or_cause : {A : Type 0} → RecordCause → Option A → Result A RecordCause
or_cause why None = Err why
or_cause why (Some x) = Ok x

-- the number in a field that is there or not
abbrev pub number_found : Option (List ℕ) → Result ℤ RecordCause
number_found None = Err cause.NoField
number_found (Some field) = or_cause cause.NotNumber (field_number field)

-- a sum or a product, which has 64 bits or not
abbrev pub plus : ℤ → Result ℤ RecordCause → Result ℤ RecordCause
plus n (Err why) = Err why
plus n (Ok v) = or_cause cause.Overflow (within_64_bits (v +ℤ n))

abbrev pub times : ℤ → Result ℤ RecordCause → Result ℤ RecordCause
times n (Err why) = Err why
times n (Ok v) = or_cause cause.Overflow (within_64_bits (v *ℤ n))

-- the sum of the numbers in two fields
abbrev pub sum_of : Option ℤ → Option ℤ → Result ℤ RecordCause
sum_of None w = Err cause.NotNumber
sum_of (Some v) None = Err cause.NotNumber
sum_of (Some v) (Some w) = or_cause cause.Overflow (within_64_bits (v +ℤ w))

abbrev pub sum_found : Option (List ℕ) → Option (List ℕ) → Result ℤ RecordCause
sum_found None right = Err cause.NoField
sum_found (Some left) None = Err cause.NoField
sum_found (Some left) (Some right) = sum_of (field_number left) (field_number right)

abbrev pub field_found : Option (List ℕ) → Result (List ℕ) RecordCause
field_found field = or_cause cause.NoField field

-- the bytes of two fields, one after the other
abbrev pub joined_found : Option (List ℕ) → Option (List ℕ) → Result (List ℕ) RecordCause
joined_found None right = Err cause.NoField
joined_found (Some left) None = Err cause.NoField
joined_found (Some left) (Some right) = Ok (left ++ right)

abbrev pub refused : RecordCause → ℕ → Row → Outcome
refused why j row = to.Refused row.number j (record_cause_number why)

-- the record goes on unchanged, or not
abbrev pub kept : Result Bool RecordCause → ℕ → Row → Outcome
kept (Err why) j row = refused why j row
kept (Ok true) j row = to.Result row
kept (Ok false) j row = to.Filtered row.number

-- the record goes on with these fields, if they are not too long
abbrev pub with_fields : List (List ℕ) → ℕ → Row → Outcome
with_fields fields j row = if nat_lt 4096 (sum_by length fields) then refused cause.TooLong j row else to.Result (record { number = row.number; fields = fields })

-- the record goes on with a number in the place of a field
abbrev pub replaced : ℕ → Result ℤ RecordCause → ℕ → Row → Outcome
replaced at (Err why) j row = refused why j row
replaced at (Ok z) j row = with_fields (slice_set row.fields at (signed_decimal z)) j row

-- the record goes on with one more field
abbrev pub appended : Result (List ℕ) RecordCause → ℕ → Row → Outcome
appended (Err why) j row = refused why j row
appended (Ok field) j row = with_fields (row.fields ++ field ∷ []) j row

abbrev pub decimal_of : Result ℤ RecordCause → Result (List ℕ) RecordCause
decimal_of (Err why) = Err why
decimal_of (Ok z) = Ok (signed_decimal z)

-- the record goes on without a field
abbrev pub removed : ℕ → Option (List ℕ) → ℕ → Row → Outcome
removed at None j row = refused cause.NoField j row
removed at (Some field) j row = with_fields (remove row.fields at) j row

abbrev pub compared : Relation → ℤ → Result ℤ RecordCause → Result Bool RecordCause
compared relation n (Err why) = Err why
compared relation n (Ok v) = Ok (relation_holds relation v n)

abbrev pub matched : List ℕ → Option (List ℕ) → Result Bool RecordCause
matched text None = Err cause.NoField
matched text (Some field) = Ok (bytes_eq field text)

-- what stage j does with a record
abbrev pub stage_outcome : Stage → ℕ → Row → Outcome
stage_outcome (stage.Keep f relation n) j row = kept (compared relation n (number_found (slice_get row.fields f))) j row
stage_outcome (stage.Match f text) j row = kept (matched text (slice_get row.fields f)) j row
stage_outcome (stage.Add f n) j row = replaced f (plus n (number_found (slice_get row.fields f))) j row
stage_outcome (stage.Mul f n) j row = replaced f (times n (number_found (slice_get row.fields f))) j row
stage_outcome (stage.Sum f g) j row = appended (decimal_of (sum_found (slice_get row.fields f) (slice_get row.fields g))) j row
stage_outcome (stage.Cat f g) j row = appended (joined_found (slice_get row.fields f) (slice_get row.fields g)) j row
stage_outcome (stage.Copy f) j row = appended (field_found (slice_get row.fields f)) j row
stage_outcome (stage.Cut f) j row = removed f (slice_get row.fields f) j row

-- what the stages from stage j on do with what the stages before made of a record: one that was refused or filtered goes to no later stage
unfoldable pub outcome_from : List Stage → ℕ → Outcome → Outcome
outcome_from [] j so_far = so_far
outcome_from (s ∷ stages) j (to.Result row) = outcome_from stages (j + 1) (stage_outcome s j row)
outcome_from (s ∷ stages) j (to.Refused number at why) = to.Refused number at why
outcome_from (s ∷ stages) j (to.Filtered number) = to.Filtered number

-- what becomes of a record
abbrev pub record_outcome : List Stage → Row → Outcome
record_outcome stages row = outcome_from stages 1 (to.Result row)

-- the number of the record that an outcome is of
abbrev pub number_of_outcome : Outcome → ℕ
number_of_outcome (to.Result row) = row.number
number_of_outcome (to.Refused number at why) = number
number_of_outcome (to.Filtered number) = number

-- the record that goes on, if one does
abbrev pub row_in : Outcome → Option Row
row_in (to.Result row) = Some row
row_in (to.Refused number at why) = None
row_in (to.Filtered number) = None

-- the record as it is after stages 1 to j, if none of them refuses or filters it
abbrev pub row_after : List Stage → ℕ → Row → Option Row
row_after stages j row = row_in (record_outcome (take j stages) row)

-- whether stages 1 to j neither refuse nor filter the record
abbrev pub goes_on : List Stage → ℕ → Row → Bool
goes_on stages j row = is_some (row_after stages j row)

-- the outcome of a record comes about stage by stage
pub record StagesMakeOutcomes : Type 0 where
  -- no stage leaves the record as it is
  pub first : (stages : List Stage) (row : Row) → row_after stages 0 row ≡ Some row
  -- what stage j + 1 makes of the record as it is after stages 1 to j is the outcome of stages 1 to j + 1
  pub next : (stages : List Stage) (j : ℕ) (what : Stage) (row now : Row) → slice_get stages j ≡ Some what → row_after stages j row ≡ Some now → record_outcome (take (j + 1) stages) row ≡ stage_outcome what (j + 1) now
  -- a record that does not go on has its outcome
  pub ended : (stages : List Stage) (j : ℕ) (row : Row) → goes_on stages j row ≡ false → record_outcome (take j stages) row ≡ record_outcome stages row
  -- and so has a record that has gone through all stages
  pub last : (stages : List Stage) (row now : Row) → row_after stages (length stages) row ≡ Some now → record_outcome stages row ≡ to.Result now
