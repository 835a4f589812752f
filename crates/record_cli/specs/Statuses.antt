-- The numbers of the statuses.
use Rattle.std.specs.Prelude.{ℕ, Bool, true, false}
use Rattle.ho_io.specs.Counts.{counted}
use Rattle.record_cli.specs.declared.status.Status.{Status}
use Rattle.record_cli.specs.declared.status.Status.TheVariants as status

abbrev pub status_number : Status → ℕ
status_number status.Done = 0
status_number status.Ended = 1
status_number status.Usage = 2
status_number status.Missing = 3
status_number status.SpecRefused = 4
status_number status.InputRefused = 5
status_number status.TooLarge = 6
status_number status.ReadFault = 7
status_number status.WriteFault = 8
status_number status.NoMemory = 9

-- whether a status comes with a text that was written whole
abbrev pub is_written : Status → Bool
is_written status.ReadFault = false
is_written status.WriteFault = false
is_written status.NoMemory = false
is_written other = true

-- whether a status is that of a refused file, which is told by one row
abbrev pub is_refusal : Status → Bool
is_refusal status.Missing = true
is_refusal status.SpecRefused = true
is_refusal status.InputRefused = true
is_refusal status.TooLarge = true
is_refusal other = false

-- whether a file could not be read
abbrev pub is_read_fault : Status → Bool
is_read_fault status.ReadFault = true
is_read_fault other = false

-- how many puts failed, after a command with this status: one more at a write fault, else none
abbrev pub write_faults : ℕ → Status → ℕ
write_faults before status.WriteFault = counted before 1
write_faults before other = before
