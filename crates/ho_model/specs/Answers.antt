-- An object that determines its answer accepts an entry exactly where the entry has that reply.
use Rattle.std.specs.Prelude.{Option, Some, None, if◌then◌else◌}
use Rattle.ho_model.specs.Entries.{ReplyMark, same_reply}

-- the state that goes with an answer, where the reply is that of the answer
abbrev pub accepted : {S : Type 0} → Option (ReplyMark × S) → ReplyMark → Option S
accepted None reply = None
accepted (Some answer) reply = if same_reply answer.0 reply then Some answer.1 else None
