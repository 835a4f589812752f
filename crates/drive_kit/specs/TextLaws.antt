-- What the text of a history tells.
use Rattle.std.specs.Prelude.{◌≡◌, ◌≤◌, List, All, length, Ok}
use Rattle.ho_model.specs.declared.objects.Object.{Object}
use Rattle.ho_model.specs.declared.histories.Entry.{Entry}
use Rattle.drive_kit.specs.Calls.{kind_of}
use Rattle.drive_kit.specs.Histories.{IsEntryOf, history_in, text_of}

-- a history of the object, not too long, is read back from its text
abbrev pub TextsTellHistories : Type 0
TextsTellHistories = (object : Object) (history : List Entry) → All (IsEntryOf (kind_of object)) history → length history ≤ 20000 → history_in object (text_of history) ≡ Ok history

-- two such histories with one text are equal
abbrev pub TextsDiffer : Type 0
TextsDiffer = (object : Object) (a b : List Entry) → All (IsEntryOf (kind_of object)) a → All (IsEntryOf (kind_of object)) b → length a ≤ 20000 → length b ≤ 20000 → text_of a ≡ text_of b → a ≡ b
