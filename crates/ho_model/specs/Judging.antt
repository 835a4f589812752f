-- How an object's answer to a call judges the reply that is written beside the call.
use Rattle.std.specs.Prelude.{◌≡◌, [], Option, Some, None, Bool, true, false, if◌then◌else◌, ◌||◌}
use Rattle.ho_model.specs.declared.histories.Reply.{Reply}
use Rattle.ho_model.specs.Entries.{ReplyMark, Dropped, Item, same_reply}
use Rattle.ho_model.specs.Written.{giving, showing}

-- an entry is accepted, and leads to this state; or it is refused
abbrev pub Accepts : {S : Type 0} → Option S → S → Bool → Type 0
Accepts after new true = after ≡ Some new
Accepts after new false = after ≡ None

-- no written reply is the answer: there is none, or it has an item that never was, without a number
abbrev pub is_unwritten : {S : Type 0} → Option (ReplyMark × S) → Bool
is_unwritten None = true
is_unwritten (Some answer) = same_reply answer.0 (Dropped []) || same_reply answer.0 (Item [])

-- a reply, by which an item is shown or given
abbrev pub meant : Bool → Reply → ReplyMark
meant shows said = if shows then showing said else giving said

-- the answer is this written reply, with this state; or no written reply
abbrev pub IsAnswer : {S : Type 0} → Bool → Option (ReplyMark × S) → S → Option Reply → Type 0
IsAnswer shows answer new None = is_unwritten answer ≡ true
IsAnswer shows answer new (Some said) = answer ≡ Some (meant shows said, new)

-- a written reply is the one that was answered
abbrev pub agrees : Option Reply → Reply → Bool
agrees None written = false
agrees (Some said) written = same_reply (giving said) (giving written)
