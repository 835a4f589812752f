-- The numbers that fields hold.
use Rattle.std.specs.Prelude.{ℕ, List, ◌&&◌, nat_le, Option, Some, None, if◌then◌else◌}
use Rattle.ho_base.specs.Numbers.{below_64_bits, word_number_of}

-- the number of 64 bits that a field's 1 to 20 digits stand for
abbrev pub number_in : List ℕ → Option ℕ
number_in field = below_64_bits (word_number_of field)

abbrev pub in_range : ℕ → ℕ → Option ℕ → Option ℕ
in_range least most None = None
in_range least most (Some n) = if nat_le least n && nat_le n most then Some n else None

-- the same where it is from least to most
unfoldable pub number_within : ℕ → ℕ → List ℕ → Option ℕ
number_within least most field = in_range least most (number_in field)

-- the number of a fault, 0 for none
abbrev pub fault_in : List ℕ → Option ℕ
fault_in field = number_within 0 65535 field

-- a caller of a script
abbrev pub caller_in : List ℕ → Option ℕ
caller_in field = number_within 0 15 field
