-- How long segments are, and how many places they need.
use Rattle.std.specs.Prelude.{ℕ, ◌+◌, ◌*◌, ◌/◌, ◌≤◌, Bool, min, IsTrue, if◌then◌else◌}
use Rattle.std.specs.Int.{is_power_of_two}

-- a power of two from 2 to 1,024
abbrev pub IsFirstLength : ℕ → Type 0
IsFirstLength len = (2 ≤ len) × (len ≤ 1024) × IsTrue (is_power_of_two len)

abbrev pub longest_of : ℕ → ℕ
longest_of first_len = min (32 * first_len) 1024

-- a segment may be so long in a queue with this first length
abbrev pub IsSegmentLength : ℕ → ℕ → Type 0
IsSegmentLength first_len len = (first_len ≤ len) × (len ≤ longest_of first_len) × IsTrue (is_power_of_two len)

abbrev pub next_len_of : ℕ → ℕ → Bool → ℕ
next_len_of first_len len observed = if observed then first_len else min (2 * len) (longest_of first_len)

abbrev pub places_of : ℕ → ℕ → ℕ → ℕ
places_of room first_len callers = callers * (room / first_len + 1) + 1
