-- Why no channel is made.
use Rattle.std.specs.Prelude.{◌≡◌, ◌<◌, ℕ, ◌⊎◌}

-- no items fit, or more than a channel may hold
abbrev pub IsBadCapacity : ℕ → Type 0
IsBadCapacity capacity = (capacity ≡ 0) ⊎ (65536 < capacity)
