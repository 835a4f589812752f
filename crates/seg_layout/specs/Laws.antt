-- Laws of the layout.
use Rattle.std.specs.Prelude.{◌≡◌, ◌≢◌, ℕ, ◌+◌, ◌<◌, ◌≤◌, ◌↔◌, IsTrue}
use Rattle.std.specs.Int.{is_power_of_two, IsPowerOfTwo}
use Rattle.seg_layout.specs.Numbers.{slot_at, free_at, published_at, IsFirstIn}
use Rattle.seg_layout.specs.Lengths.{IsFirstLength, IsSegmentLength}

abbrev pub NumbersTellPositions : Type 0
NumbersTellPositions =
    (p q : ℕ) → (free_at p ≡ free_at q → p ≡ q) × (published_at p ≡ published_at q → p ≡ q) × (free_at p ≢ published_at q)

-- two positions less than a length apart that lie in one slot are one
abbrev pub NearPositionsDiffer : Type 0
NearPositionsDiffer = (len p q : ℕ) → p ≤ q → q < p + len → slot_at p len ≡ slot_at q len → p ≡ q

-- one length later is the next position of the slot
abbrev pub ReleasedServesNext : Type 0
ReleasedServesNext = (len p : ℕ) → 1 ≤ len → IsFirstIn (p + 1) len (slot_at p len) (p + len)

-- a slot has one first position
abbrev pub FirstsAreOne : Type 0
FirstsAreOne = (start len slot p q : ℕ) → IsFirstIn start len slot p → IsFirstIn start len slot q → p ≡ q

abbrev pub FirstsAreInside : Type 0
FirstsAreInside = (start len slot p : ℕ) → slot < len → IsFirstIn start len slot p → p < start + len

abbrev pub LengthsAreBounded : Type 0
LengthsAreBounded =
    (first_len len : ℕ) → IsFirstLength first_len → (IsSegmentLength first_len first_len) × (IsSegmentLength first_len len → (2 ≤ len) × (len ≤ 1024))

-- one bit is set exactly in the powers of two
abbrev pub PowersOfTwo : Type 0
PowersOfTwo = (n : ℕ) → IsTrue (is_power_of_two n) ↔ IsPowerOfTwo n
