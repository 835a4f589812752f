-- The words of calls: one table for each kind of object, read and written by.
use Rattle.std.specs.Prelude.{◌≡◌, ◌<◌, ◌≤◌, ◌^◌, ℕ, List, [], ◌∷◌, ⊤, Option, Some, None, option_map, Result, codes, decimal, if◌then◌else◌}
use Rattle.std.specs.Option.{ok_or}
use Rattle.std.specs.Str.{bytes_eq}
use Rattle.ho_model.specs.declared.objects.Object.{Object}
use Rattle.ho_model.specs.declared.objects.Object.TheVariants as object
use Rattle.ho_model.specs.declared.histories.Call.{Call}
use Rattle.ho_model.specs.declared.histories.Call.TheVariants as call
use Rattle.drive_kit.specs.Numbers.{fault_in, number_in}
use Rattle.drive_kit.specs.declared.causes.Cause.{Cause}
use Rattle.drive_kit.specs.declared.causes.Cause.TheVariants.{BadArgument, UnknownCall}
use Rattle.drive_kit.specs.declared.calls.Kind.{Kind}
use Rattle.drive_kit.specs.declared.calls.Kind.TheVariants.{Queue, Bag, Channel, Blocking}
use Rattle.drive_kit.specs.declared.calls.CallName.{CallName}
use Rattle.drive_kit.specs.declared.calls.CallName.TheVariants.{Enq, Deq, Peek, Count, Snap, Add, Take, Write, Read, BeginWrite, BeginRead, BeginLookWrite, BeginLookRead, Poll, Cancel, CompleteWith, Completed, CompleteAdding, AddingCompleted}

abbrev pub kind_of : Object → Kind
kind_of (object.Queue room first_len) = Queue
kind_of object.Bag = Bag
kind_of object.Unbounded = Channel
kind_of (object.Bounded capacity mode) = Channel
kind_of object.Prioritized = Channel
kind_of (object.Blocking store bound) = Blocking

-- the calls of each kind of object
abbrev pub calls_of : Kind → List CallName
calls_of Queue = Enq ∷ Deq ∷ Peek ∷ Count ∷ Snap ∷ []
calls_of Bag = Add ∷ Take ∷ Count ∷ Snap ∷ []
calls_of Channel = Write ∷ BeginWrite ∷ Read ∷ BeginRead ∷ BeginLookRead ∷ BeginLookWrite ∷ Poll ∷ Cancel ∷ CompleteWith ∷ Completed ∷ Peek ∷ Count ∷ []
calls_of Blocking = Add ∷ Take ∷ CompleteAdding ∷ AddingCompleted ∷ Completed ∷ Count ∷ Snap ∷ []

-- the word that stands for a call
abbrev pub word_of : CallName → List ℕ
word_of Enq = codes "enq"
word_of Deq = codes "deq"
word_of Peek = codes "peek"
word_of Count = codes "count"
word_of Snap = codes "snap"
word_of Add = codes "add"
word_of Take = codes "take"
word_of Write = codes "write"
word_of Read = codes "read"
word_of BeginWrite = codes "begin-write"
word_of BeginRead = codes "begin-read"
word_of BeginLookWrite = codes "begin-look-write"
word_of BeginLookRead = codes "begin-look-read"
word_of Poll = codes "poll"
word_of Cancel = codes "cancel"
word_of CompleteWith = codes "complete"
word_of Completed = codes "completed"
word_of CompleteAdding = codes "complete"
word_of AddingCompleted = codes "adding-completed"

-- which of these calls a word stands for
abbrev pub named : List CallName → List ℕ → Option CallName
named [] word = None
named (name ∷ names) word = if bytes_eq word (word_of name) then Some name else named names word

-- a call that takes no argument
abbrev pub bare : Call → List ℕ → Option Call
bare c [] = Some c
bare c (byte ∷ rest) = None

-- the call of this name with this argument, which is empty where there is none
unfoldable pub call_with : CallName → List ℕ → Option Call
call_with Enq argument = option_map call.Enq (number_in argument)
call_with Deq argument = bare call.Deq argument
call_with Peek argument = bare call.Peek argument
call_with Count argument = bare call.Count argument
call_with Snap argument = bare call.Snap argument
call_with Add argument = option_map call.Add (number_in argument)
call_with Take argument = bare call.Take argument
call_with Write argument = option_map call.Write (number_in argument)
call_with Read argument = bare call.Read argument
call_with BeginWrite argument = option_map call.BeginWrite (number_in argument)
call_with BeginRead argument = bare call.BeginRead argument
call_with BeginLookWrite argument = bare call.BeginLookWrite argument
call_with BeginLookRead argument = bare call.BeginLookRead argument
call_with Poll argument = option_map call.Poll (number_in argument)
call_with Cancel argument = option_map call.Cancel (number_in argument)
call_with CompleteWith argument = option_map call.CompleteWith (fault_in argument)
call_with Completed argument = bare call.Completed argument
call_with CompleteAdding argument = bare call.CompleteAdding argument
call_with AddingCompleted argument = bare call.AddingCompleted argument

-- which of the calls of such an object a word stands for
abbrev pub name_for : Kind → List ℕ → Result CallName Cause
name_for kind word = ok_or (named (calls_of kind) word) UnknownCall

-- the same of the call and its argument
abbrev pub called : CallName → List ℕ → Result Call Cause
called name argument = ok_or (call_with name argument) BadArgument

-- a call without its argument
abbrev pub name_of : Call → CallName
name_of (call.Enq value) = Enq
name_of call.Deq = Deq
name_of call.Peek = Peek
name_of call.Count = Count
name_of call.Snap = Snap
name_of (call.Add value) = Add
name_of call.Take = Take
name_of (call.Write value) = Write
name_of call.Read = Read
name_of (call.BeginWrite value) = BeginWrite
name_of call.BeginRead = BeginRead
name_of call.BeginLookWrite = BeginLookWrite
name_of call.BeginLookRead = BeginLookRead
name_of (call.Poll wait) = Poll
name_of (call.Cancel wait) = Cancel
name_of (call.CompleteWith fault) = CompleteWith
name_of call.Completed = Completed
name_of call.CompleteAdding = CompleteAdding
name_of call.AddingCompleted = AddingCompleted

-- the argument of a call, empty where it has none
unfoldable pub argument_of : Call → List ℕ
argument_of (call.Enq value) = decimal value
argument_of (call.Add value) = decimal value
argument_of (call.Write value) = decimal value
argument_of (call.BeginWrite value) = decimal value
argument_of (call.Poll wait) = decimal wait
argument_of (call.Cancel wait) = decimal wait
argument_of (call.CompleteWith fault) = decimal fault
argument_of _ = []

-- an argument is a number of 64 bits, and that of a completion the number of a fault
abbrev pub IsInRange : Call → Type 0
IsInRange (call.Enq value) = value < 2 ^ 64
IsInRange (call.Add value) = value < 2 ^ 64
IsInRange (call.Write value) = value < 2 ^ 64
IsInRange (call.BeginWrite value) = value < 2 ^ 64
IsInRange (call.Poll wait) = wait < 2 ^ 64
IsInRange (call.Cancel wait) = wait < 2 ^ 64
IsInRange (call.CompleteWith fault) = fault ≤ 65535
IsInRange _ = ⊤

-- such an object has this call: among its calls the call's word stands for it
abbrev pub IsAmong : Kind → CallName → Type 0
IsAmong kind name = named (calls_of kind) (word_of name) ≡ Some name

pub record IsCallOf (kind : Kind) (c : Call) : Type 0 where
  pub among : IsAmong kind (name_of c)
  pub in_range : IsInRange c
