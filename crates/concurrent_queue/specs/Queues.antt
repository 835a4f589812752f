-- A shared queue: its makers' refusals, its identity and its first pass.
use Rattle.std.specs.Prelude.{◌≡◌, ℕ, ◌*◌, ◌<◌, ◌≤◌, ◌⊎◌, None, IsTrue}
use Rattle.std.specs.Int.{is_power_of_two}
use Rattle.atomic_table.specs.Seated.{TableId}
use Rattle.ho_model.specs.declared.objects.Object.TheVariants as object
use Rattle.passes.specs.Views.{first_pass}
use Rattle.seg_layout.specs.Lengths.{places_of, longest_of}
use Rattle.concurrent_queue.specs.Passes.{WindowedPass}

-- there is no room, or more than a queue may have
abbrev pub IsBadRoom : ℕ → Type 0
IsBadRoom room = (room ≡ 0) ⊎ (65536 < room)

-- a power of two from 2 to 1,024
abbrev pub IsFirstLength : ℕ → Type 0
IsFirstLength length = (2 ≤ length) × (length ≤ 1024) × IsTrue (is_power_of_two length)

-- its places have more than 33,554,432 slots
abbrev pub IsTooLarge : ℕ → ℕ → ℕ → Type 0
IsTooLarge room first_len callers = 33554432 < places_of room first_len callers * longest_of first_len

-- what contracts see of a queue: its identity and its parameters
pub record QueueId : Type 0 where
  pub table : TableId
  pub room : ℕ
  pub first_len : ℕ

module _ {O : Type 0} where
  -- the first pass of a queue, which has no window open
  abbrev pub first_of : QueueId → ℕ → WindowedPass O
  first_of q callers = record { pass = first_pass q.table (object.Queue q.room q.first_len) callers; window = None }

  -- the pass is of the queue, and has no window open
  abbrev pub IsOf : QueueId → WindowedPass O → Type 0
  IsOf q p = (p.pass.table ≡ q.table) × (p.pass.object ≡ object.Queue q.room q.first_len) × (p.window ≡ None)

  -- the pass is of the queue, and may have a window open
  abbrev pub IsInside : QueueId → WindowedPass O → Type 0
  IsInside q p = (p.pass.table ≡ q.table) × (p.pass.object ≡ object.Queue q.room q.first_len)
