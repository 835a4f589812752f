-- What the text of a script means.
use Rattle.std.specs.Prelude.{◌+◌, ◌++◌, ℕ, List, [], ◌∷◌, length, ◌&&◌, ◌==◌, Result, Ok, Err, Option, Some, None, if◌then◌else◌}
use Rattle.std.specs.Option.{ok_or}
use Rattle.ho_model.specs.declared.histories.Call.{Call}
use Rattle.text_rows.specs.Rows.{rows_of}
use Rattle.drive_kit.specs.Calls.{called, kind_of, name_for}
use Rattle.drive_kit.specs.Causes.{Refusal, RowTooMany, and_then, at_row, made_of, read_from}
use Rattle.drive_kit.specs.Numbers.{caller_in}
use Rattle.drive_kit.specs.Objects.{object_of}
use Rattle.drive_kit.specs.Plans.{Plan, is_snap, snaps_in}
use Rattle.drive_kit.specs.declared.calls.Kind.{Kind}
use Rattle.drive_kit.specs.declared.calls.CallName.{CallName}
use Rattle.drive_kit.specs.declared.causes.Cause.{Cause}
use Rattle.drive_kit.specs.declared.causes.Cause.TheVariants.{NoObject, BadObject, BadCaller, UnknownCall, BadArgument, TooManySnaps}
use Rattle.drive_kit.specs.declared.scripts.ScriptRow.{ScriptRow}

-- a call with the fields behind its word: its argument, if there is one
abbrev pub called_with : CallName → List (List ℕ) → Result Call Cause
called_with name [] = called name []
called_with name (argument ∷ []) = called name argument
called_with name fields = Err BadArgument

-- the call that stands behind the caller
abbrev pub called_by : Kind → List (List ℕ) → Result Call Cause
called_by kind [] = Err UnknownCall
called_by kind (word ∷ rest) = and_then (name_for kind word) (λ name. called_with name rest)

abbrev pub with_caller : Option ℕ → Result Call Cause → Result ScriptRow Cause
with_caller None call = Err BadCaller
with_caller (Some caller) call = made_of (λ c. record { caller = caller; call = c }) call

-- what a row after the object's says
abbrev pub row_of : Kind → List (List ℕ) → Result ScriptRow Cause
row_of kind [] = Err BadCaller
row_of kind (caller ∷ rest) = with_caller (caller_in caller) (called_by kind rest)

-- a row behind so many snapshots, of which there may be 100
abbrev pub limited : ℕ → ScriptRow → Result ScriptRow Cause
limited snaps row = if is_snap row.call && snaps == 100 then Err TooManySnaps else Ok row

-- the script with one row more; the object's is row 0, and the last that there may be is row 20,000
unfoldable pub with_row : Plan → List (List ℕ) → Result Plan Refusal
with_row plan fields =
    if length plan.rows == 20000 then Err RowTooMany
    else made_of (λ row. record { object = plan.object; rows = plan.rows ++ row ∷ [] }) (at_row (length plan.rows + 1) (and_then (row_of (kind_of plan.object) fields) (limited (snaps_in plan.rows))))

-- a script without calls
abbrev pub begun : List (List ℕ) → Result Plan Cause
begun fields = made_of (λ o. record { object = o; rows = [] }) (ok_or (object_of fields) BadObject)

-- the script of these rows, or why they are refused
abbrev pub plan_of : List (List (List ℕ)) → Result Plan Refusal
plan_of [] = at_row 0 (Err NoObject)
plan_of (first ∷ rows) = and_then (at_row 0 (begun first)) (λ plan. read_from with_row plan rows)

-- the script that a text means: its first refused row with its first cause, if it has one
abbrev pub script_of : List ℕ → Result Plan Refusal
script_of bytes = plan_of (rows_of bytes)
