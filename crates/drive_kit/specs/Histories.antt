-- What the text of a history means, and the text of a history.
use Rattle.std.specs.Prelude.{◌≡◌, ◌≤◌, ◌+◌, ◌++◌, ℕ, List, [], ◌∷◌, length, ◌==◌, Option, Some, None, Result, Err, Bool, true, false, decimal, if◌then◌else◌}
use Rattle.ho_model.specs.declared.objects.Object.{Object}
use Rattle.ho_model.specs.declared.histories.Call.{Call}
use Rattle.ho_model.specs.declared.histories.Entry.{Entry}
use Rattle.text_rows.specs.Rows.{rows_of}
use Rattle.text_rows.specs.Written.{text_of_rows}
use Rattle.drive_kit.specs.Answers.{fits}
use Rattle.drive_kit.specs.Calls.{IsCallOf, argument_of, called, kind_of, name_for, name_of, word_of}
use Rattle.drive_kit.specs.Causes.{Refusal, RowTooMany, and_then, at_row, made_of, read_from}
use Rattle.drive_kit.specs.Numbers.{caller_in, number_in}
use Rattle.drive_kit.specs.Replies.{IsWritable, reply_fields, reply_to}
use Rattle.drive_kit.specs.declared.calls.Kind.{Kind}
use Rattle.drive_kit.specs.declared.causes.Cause.{Cause}
use Rattle.drive_kit.specs.declared.causes.Cause.TheVariants.{BadCaller, BadShape}

-- whether a field holds this number
abbrev pub holds : ℕ → Option ℕ → Bool
holds n None = false
holds n (Some m) = m == n

-- a caller's call, and the reply of these fields
abbrev pub replied : Kind → ℕ → Result Call Cause → List ℕ → List (List ℕ) → Result Entry Cause
replied kind caller call said more = and_then call (λ c. made_of (λ r. record { caller = caller; call = c; reply = r }) (reply_to kind c said more))

abbrev pub by_caller : Kind → Option ℕ → Result Call Cause → List ℕ → List (List ℕ) → Result Entry Cause
by_caller kind None call said more = Err BadCaller
by_caller kind (Some caller) call said more = replied kind caller call said more

-- what the row of this number says
unfoldable pub entry_of_row : Kind → ℕ → List (List ℕ) → Result Entry Cause
entry_of_row kind number (at ∷ caller ∷ word ∷ argument ∷ said ∷ more) =
    if holds number (number_in at) then by_caller kind (caller_in caller) (and_then (name_for kind word) (λ name. called name argument)) said more
    else Err BadShape
entry_of_row kind number fields = Err BadShape

-- the history with one row more; the last that there may be is row 19,999
unfoldable pub with_entry : Kind → List Entry → List (List ℕ) → Result (List Entry) Refusal
with_entry kind history fields =
    if length history == 20000 then Err RowTooMany
    else made_of (λ e. history ++ e ∷ []) (at_row (length history) (entry_of_row kind (length history) fields))

-- the history of an object that a text means: its first refused row with its first cause, if it has one
abbrev pub history_in : Object → List ℕ → Result (List Entry) Refusal
history_in object bytes = read_from (with_entry (kind_of object)) [] (rows_of bytes)

-- the row of the entry of this number
abbrev pub row_of_entry : ℕ → Entry → List (List ℕ)
row_of_entry number e = decimal number ∷ decimal e.caller ∷ word_of (name_of e.call) ∷ argument_of e.call ∷ reply_fields e.reply

-- the rows of entries, the first of which has this number
abbrev pub rows_from : ℕ → List Entry → List (List (List ℕ))
rows_from number [] = []
rows_from number (e ∷ es) = row_of_entry number e ∷ rows_from (number + 1) es

-- the text of a history
unfoldable pub text_of : List Entry → List ℕ
text_of history = text_of_rows (rows_from 0 history)

-- an entry of such an object: its caller is below 16, the object has the call, and the call can have the reply
pub record IsEntryOf (kind : Kind) (e : Entry) : Type 0 where
  pub few : e.caller ≤ 15
  pub of_kind : IsCallOf kind e.call
  pub replies : fits kind e.call e.reply ≡ true
  pub writable : IsWritable e.reply
