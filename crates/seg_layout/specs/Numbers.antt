-- Positions of the queue, their slots, and the numbers that slots show.
use Rattle.std.specs.Prelude.{◌≡◌, ℕ, ◌+◌, ◌*◌, ◌%◌, ◌≤◌}

-- the slot in which a position lies
abbrev pub slot_at : ℕ → ℕ → ℕ
slot_at position len = position % len

-- shown by a slot that is free for the position
abbrev pub free_at : ℕ → ℕ
free_at position = 2 * position

-- shown by a slot in which the item of the position is published
abbrev pub published_at : ℕ → ℕ
published_at position = 2 * position + 1

-- the position is the first one from the start on that lies in the slot
abbrev pub IsFirstIn : ℕ → ℕ → ℕ → ℕ → Type 0
IsFirstIn start len slot position =
    (start ≤ position) × (slot_at position len ≡ slot) × ((other : ℕ) → start ≤ other → slot_at other len ≡ slot → position ≤ other)

-- what a slot shows when its segment is opened
abbrev pub IsOpeningNumber : ℕ → ℕ → ℕ → ℕ → Type 0
IsOpeningNumber start len slot number = (position : ℕ) × (number ≡ free_at position) × IsFirstIn start len slot position
