-- What is written is told by its mark.
use Rattle.std.specs.Prelude.{◌≡◌, List}
use Rattle.ho_model.specs.declared.objects.Object.{Object}
use Rattle.ho_model.specs.declared.histories.Call.{Call}
use Rattle.ho_model.specs.declared.histories.Reply.{Reply}
use Rattle.ho_model.specs.declared.histories.Entry.{Entry}
use Rattle.ho_model.specs.Written.{call_of, reply_of, entry_of, history_of}

-- two calls with one mark are equal
abbrev pub CallsAreTold : Type 0
CallsAreTold = (a b : Call) → call_of a ≡ call_of b → a ≡ b

-- two replies of any kind to one call on one object
abbrev pub RepliesAreTold : Type 0
RepliesAreTold = (object : Object) (called : Call) (a b : Reply) → reply_of object called a ≡ reply_of object called b → a ≡ b

-- two entries of one object
abbrev pub EntriesAreTold : Type 0
EntriesAreTold = (object : Object) (a b : Entry) → entry_of object a ≡ entry_of object b → a ≡ b

-- two histories of one object
abbrev pub HistoriesAreTold : Type 0
HistoriesAreTold = (object : Object) (a b : List Entry) → history_of object a ≡ history_of object b → a ≡ b
