-- Counts that stay at their last value, 2^64 - 1.
use Rattle.std.specs.Prelude.{ℕ, ◌+◌, ◌-◌, ◌^◌, ◌≤◌, min}

-- a count after n more
abbrev pub counted : ℕ → ℕ → ℕ
counted before n = min (before + n) (2 ^ 64 - 1)

-- the count rose in between, or stands at its last value
abbrev pub Rose : ℕ → ℕ → Type 0
Rose before now = counted before 1 ≤ now
