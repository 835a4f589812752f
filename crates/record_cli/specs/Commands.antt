-- The forms that the program's words may have.
use Rattle.std.specs.Prelude.{◌≤◌, ◌<◌, ◌^◌, ⊤, ℕ, List, [], ◌∷◌, Bool, true, false, not, ◌&&◌, ◌==◌, nat_le, length, codes, Option, Some, None, if◌then◌else◌}
use Rattle.std.specs.Str.{bytes_eq}
use Rattle.ho_base.specs.Numbers.{word_number_of}
use Rattle.record_cli.specs.declared.commands.Command.{Command}
use Rattle.record_cli.specs.declared.commands.Command.TheVariants as command

-- what words ask for, with the names of the files and the numbers in them
pub data Task : Type 0 where
  Plain : (pipe file : List ℕ) → Task
  Run : (pipe file : List ℕ) (workers : ℕ) → Task
  Drive : (script : List ℕ) → Task
  Check : (script history : List ℕ) → Task
  Made : (count seed workers : ℕ) → Task

-- the task of a command
abbrev pub task_of : Option Command → Option Task
task_of None = None
task_of (Some (command.Plain pipe file)) = Some (Plain pipe.now file.now)
task_of (Some (command.Run pipe file workers)) = Some (Run pipe.now file.now workers)
task_of (Some (command.Drive script)) = Some (Drive script.now)
task_of (Some (command.Check script history)) = Some (Check script.now history.now)
task_of (Some (command.Made count seed workers)) = Some (Made count seed workers)

-- a number of workers that a stage may have
pub record IsCrewSize (workers : ℕ) : Type 0 where
  pub least : 1 ≤ workers
  pub most : workers ≤ 16

-- numbers from which records may be made
pub record IsSeed (count seed : ℕ) : Type 0 where
  pub few : count ≤ 200000
  pub range : seed < 2 ^ 31

-- a command's numbers are in their ranges
abbrev pub IsInRange : Option Command → Type 0
IsInRange None = ⊤
IsInRange (Some (command.Plain pipe file)) = ⊤
IsInRange (Some (command.Run pipe file workers)) = IsCrewSize workers
IsInRange (Some (command.Drive script)) = ⊤
IsInRange (Some (command.Check script history)) = ⊤
IsInRange (Some (command.Made count seed workers)) = IsSeed count seed × IsCrewSize workers

-- whether a word may name a file
abbrev pub is_name : List ℕ → Bool
is_name word = not (length word == 0)

abbrev pub within : ℕ → ℕ → Option ℕ → Option ℕ
within least most None = None
within least most (Some n) = if nat_le least n && nat_le n most then Some n else None

-- the number of a word, where it is one from least to most, of 1 to 20 digits
abbrev pub number_within : ℕ → ℕ → List ℕ → Option ℕ
number_within least most word = within least most (word_number_of word)

-- `drive SCRIPT`
abbrev pub of_one_name : List ℕ → List ℕ → Option Task
of_one_name word script = if bytes_eq word (codes "drive") && is_name script then Some (Drive script) else None

-- `plain PIPE FILE` and `check SCRIPT HISTORY`
abbrev pub of_two_names : List ℕ → List ℕ → List ℕ → Option Task
of_two_names word first second =
    if not (is_name first) then None
    else if not (is_name second) then None
    else if bytes_eq word (codes "plain") then Some (Plain first second)
    else if bytes_eq word (codes "check") then Some (Check first second)
    else None

-- `run PIPE FILE WORKERS`
abbrev pub of_run : List ℕ → List ℕ → ℕ → Option Task
of_run pipe file workers = if is_name pipe && is_name file then Some (Run pipe file workers) else None

-- `made COUNT SEED WORKERS`
abbrev pub of_made : Option ℕ → Option ℕ → ℕ → Option Task
of_made None seed workers = None
of_made (Some count) None workers = None
of_made (Some count) (Some seed) workers = Some (Made count seed workers)

abbrev pub of_work : List ℕ → List ℕ → List ℕ → Option ℕ → Option Task
of_work word first second None = None
of_work word first second (Some workers) =
    if bytes_eq word (codes "run") then of_run first second workers
    else if bytes_eq word (codes "made") then of_made (number_within 0 200000 first) (number_within 0 2147483647 second) workers
    else None

-- what the words ask for, if they have the form of a command
unfoldable pub command_of : List (List ℕ) → Option Task
command_of (word ∷ script ∷ []) = of_one_name word script
command_of (word ∷ first ∷ second ∷ []) = of_two_names word first second
command_of (word ∷ first ∷ second ∷ workers ∷ []) = of_work word first second (number_within 1 16 workers)
command_of words = None

-- whether a task may wait for other threads
abbrev pub waits_for : Option Task → Bool
waits_for None = false
waits_for (Some (Plain pipe file)) = false
waits_for (Some (Run pipe file workers)) = true
waits_for (Some (Drive script)) = true
waits_for (Some (Check script history)) = false
waits_for (Some (Made count seed workers)) = true

-- whether a task reads files
abbrev pub is_reading : Option Task → Bool
is_reading None = false
is_reading (Some (Plain pipe file)) = true
is_reading (Some (Run pipe file workers)) = true
is_reading (Some (Drive script)) = true
is_reading (Some (Check script history)) = true
is_reading (Some (Made count seed workers)) = false
