-- What a command leaves of the shelf that it reads and of the sink that it writes.
use Rattle.std.specs.Prelude.{◌≡◌, ◌≤◌, ◌+◌, ⊤, ℕ, List, Bool, true, false, length, Option, Some, None, IfOk, IfSome, Result, Ok, Err}
use Rattle.ho_io.specs.Counts.{Rose, counted}
use Rattle.ho_io.specs.Whole.{TookFirst}
use Rattle.record_cli.specs.Answers.{Answer, Computes, answer_in, has_read_fault, row_in}
use Rattle.record_cli.specs.Commands.{Task, Run, is_reading}
use Rattle.record_cli.specs.Inputs.{inputs_of, plain_answer}
use Rattle.record_cli.specs.Reading.{Fetches, Files, ShelfState}
use Rattle.record_cli.specs.Statuses.{is_read_fault, is_refusal, write_faults}
use Rattle.record_cli.specs.Tasks.{IsAnswerTo, IsDropless, IsTaskAnswer, MayAnswer, is_showing, reading_for}
use Rattle.record_cli.specs.declared.answer.Answer.{Answer as Computed}
use Rattle.record_cli.specs.declared.finished.Shown.{Shown}
use Rattle.record_cli.specs.declared.finished.Shown.TheVariants as show
use Rattle.record_cli.specs.declared.status.Status.{Status}
use Rattle.record_cli.specs.declared.status.Status.TheVariants as status
use Rattle.record_cli.specs.declared.stopped.Stopped.{Stopped}
use Rattle.record_cli.specs.declared.stopped.Stopped.TheVariants as stopped

-- what contracts see of a sink
pub record SinkState : Type 0 where
  pub taken : Option (List ℕ)
  pub puts : ℕ
  pub reserves : ℕ
  pub asked : ℕ
  pub faults : ℕ

abbrev pub sink_state : {K : Type 0} → (K → Option (List ℕ)) → (K → ℕ) → (K → ℕ) → (K → ℕ) → (K → ℕ) → K → SinkState
sink_state taken puts reserves asked faults sink =
    record { taken = taken sink; puts = puts sink; reserves = reserves sink; asked = asked sink; faults = faults sink }

-- the answer's status, with its whole text written
abbrev pub IsWhole : Answer → Option (List ℕ) → Option (List ℕ) → Status → Type 0
IsWhole answer before after s = (s ≡ answer.status) × TookFirst before after answer.text (length answer.text)

-- what was written at each status: nothing at want of memory and where a file could not be read, a
-- front of the text where it could not be written, and else the whole text
abbrev pub IsAnswered : Answer → Option (List ℕ) → Option (List ℕ) → Status → Type 0
IsAnswered answer before after status.ReadFault = after ≡ before
IsAnswered answer before after status.NoMemory = after ≡ before
IsAnswered answer before after status.WriteFault = (k : ℕ) × (k ≤ length answer.text) × TookFirst before after answer.text k
IsAnswered answer before after s = IsWhole answer before after s

-- how often a sink was asked for room at each status, and for how many bytes last: once where a text
-- or a front of it was written, for the whole of it; never where a file could not be read
abbrev pub HasAsked : Answer → ℕ → ℕ → ℕ → Status → Type 0
HasAsked answer before after asked status.ReadFault = after ≡ before
HasAsked answer before after asked status.NoMemory = after ≤ before + 1
HasAsked answer before after asked s = (after ≡ counted before 1) × (asked ≡ length answer.text)

-- An answer as it was written: in at most one put for each byte, with room asked for once.
pub record Writes (answer : Answer) (before after : SinkState) (s : Status) : Type 0 where
  pub answered : IsAnswered answer before.taken after.taken s
  pub puts : after.puts ≤ before.puts + length answer.text
  pub asked : HasAsked answer before.reserves after.reserves after.asked s

-- There was no memory: nothing was put, and room was asked for once at most.
pub record IsUnwritten (before after : SinkState) : Type 0 where
  pub taken : after.taken ≡ before.taken
  pub puts : after.puts ≡ before.puts
  pub reserves : after.reserves ≤ before.reserves + 1

-- what was written at each status, of an answer of which this holds: nothing at want of memory and where
-- a file could not be read, where room was not even asked for, and else its whole text or a front of it
abbrev pub IsTold : (Answer → Type 0) → SinkState → SinkState → Status → Type 0
IsTold P before after status.ReadFault = after ≡ before
IsTold P before after status.NoMemory = IsUnwritten before after
IsTold P before after s = (answer : Answer) × P answer × Writes answer before after s

-- what was written where neither a read nor a write failed, of an answer of which this holds: its whole
-- text, unless there was no memory
abbrev pub IsComplete : (Answer → Type 0) → Option (List ℕ) → Option (List ℕ) → Status → Type 0
IsComplete P before after status.NoMemory = after ≡ before
IsComplete P before after s = (answer : Answer) × P answer × IsWhole answer before after s

-- neither a read nor a write failed
abbrev pub IsUnfailing : Status → Type 0
IsUnfailing status.ReadFault = ⊥
IsUnfailing status.WriteFault = ⊥
IsUnfailing s = ⊤

-- what is shown of an answer at each status: nothing where its text was not written whole
abbrev pub shown_at : Status → Shown → Shown
shown_at status.Done shown = shown
shown_at status.Ended shown = shown
shown_at other shown = show.Nothing

-- an answer of which this holds, beside what is shown of it
abbrev pub Beside : (Answer → Type 0) → Status → Shown → Answer → Type 0
Beside P s shown answer = P answer × (shown ≡ shown_at s answer.shown)

-- where something is shown, it is what the answer shows that was written; and else nothing is
abbrev pub IsShownWhere : Bool → Option Task → SinkState → SinkState → Status → Shown → Type 0
IsShownWhere true task before after s shown = (answer : Answer) × IsAnswerTo task answer × Writes answer before after s × (shown ≡ answer.shown)
IsShownWhere false task before after s shown = shown ≡ show.Nothing

-- on each pipeline and record file `run` writes the bytes and gives the status that `plain` does, refusals included, where no
-- joint may drop
abbrev pub RunsAsPlain : Files → Option Task → SinkState → SinkState → Status → Type 0
RunsAsPlain files (Some (Run pipe file workers)) before after s =
    IsDropless (inputs_of files pipe file) → IsAnswered (plain_answer files pipe file) before.taken after.taken s
RunsAsPlain files other before after s = ⊤

-- What a command leaves of shelf and sink, with its status and what it shows, beside what it read (`Fetches`). Where the shelf
-- tells its files, it speaks of the answer that the task has for these.
pub record Leaves (task : Option Task) (shelf shelf' : ShelfState) (sink sink' : SinkState) (s : Status) (shown : Shown) : Type 0 where
  -- exactly one fetch failed at a read fault, and none at any other status
  pub fetches : Fetches (reading_for task) shelf shelf' (is_read_fault s)
  -- the task's answer was written
  pub answered : IfSome shelf.files (λ files. IsTold (Beside (IsTaskAnswer files task) s shown) sink sink' s)
  -- over every shelf an answer was written that the task may have: without a file this is its one answer
  pub told : IsTold (Beside (MayAnswer task) s shown) sink sink' s
  -- only words without a form are told of by the row of usage, and only a task that reads files ends at a read fault
  pub usage_only : s ≡ status.Usage → task ≡ None
  pub reading_only : s ≡ status.ReadFault → is_reading task ≡ true
  pub shown_is : IsShownWhere (is_showing task s) task sink sink' s shown
  pub as_plain : IfSome shelf.files (λ files. RunsAsPlain files task sink sink' s)
  -- exactly one put failed at a write fault, and none at any other status
  pub later : sink.faults ≤ sink'.faults
  pub faults : sink'.faults ≡ write_faults sink.faults s
  -- with no rise of either count of faults the text is written whole, or there was no memory
  pub unfailing : ¬ Rose shelf.faults shelf'.faults → ¬ Rose sink.faults sink'.faults → IsUnfailing s
  pub complete : IfSome shelf.files (λ files. ¬ Rose shelf.faults shelf'.faults → ¬ Rose sink.faults sink'.faults
      → IsComplete (Beside (IsTaskAnswer files task) s shown) sink.taken sink'.taken s)

-- What a task comes to before anything is written.
pub record Comes (task : Option Task) (before after : ShelfState) (computed : Result Computed Stopped) : Type 0 where
  pub fetches : Fetches (reading_for task) before after (has_read_fault computed)
  pub answer : IfSome before.files (λ files. Computes (IsTaskAnswer files task) computed)
  -- over every shelf, where no file is refused
  pub made : IfOk computed (λ answer. IsAnswerTo task (answer_in answer))
  -- without a file nothing else is answered, and no fetch fails
  pub unread : is_reading task ≡ false → Computes (IsAnswerTo task) computed
  pub unfailed : is_reading task ≡ false → has_read_fault computed ≡ false

-- an answer was written, or what is left of it
pub record Ends (answer : Answer) (before after : SinkState) (s : Status) (shown : Shown) : Type 0 where
  pub writes : Writes answer before after s
  pub read : s ≡ status.ReadFault → ⊥
  pub unwritten : s ≡ status.NoMemory → after.puts ≡ before.puts
  pub later : before.faults ≤ after.faults
  pub faults : after.faults ≡ write_faults before.faults s
  pub shown_is : shown ≡ shown_at s answer.shown

-- nothing was written
pub record EndsAt (expected : Status) (before after : SinkState) (s : Status) (shown : Shown) : Type 0 where
  pub status_is : s ≡ expected
  pub same : after ≡ before
  pub shown_is : shown ≡ show.Nothing

-- how what was computed ended
abbrev pub EndsWith : Result Computed Stopped → SinkState → SinkState → Status → Shown → Type 0
EndsWith (Ok computed) before after s shown = Ends (answer_in computed) before after s shown
EndsWith (Err (stopped.Refused row)) before after s shown = Ends (row_in row) before after s shown × (is_refusal row.status ≡ true)
EndsWith (Err stopped.ReadFault) before after s shown = EndsAt status.ReadFault before after s shown
EndsWith (Err stopped.NoMemory) before after s shown = EndsAt status.NoMemory before after s shown
