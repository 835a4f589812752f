-- The numbers that words of decimal digits stand for.
use Rattle.std.specs.Prelude.{ℕ, ◌^◌, List, [], ◌∷◌, length, Option, Some, None, nat_lt, nat_le, if◌then◌else◌}
use Rattle.std.specs.Str.{all_ascii_digits}
use Rattle.std.specs.Str.Parse.{digits_value}

-- the number that one or more digits stand for
abbrev pub magnitude_of : List ℕ → Option ℕ
magnitude_of [] = None
magnitude_of (d ∷ ds) = if all_ascii_digits (d ∷ ds) then Some (digits_value 10 (d ∷ ds)) else None

abbrev pub below_64_bits : Option ℕ → Option ℕ
below_64_bits None = None
below_64_bits (Some n) = if nat_lt n (2 ^ 64) then Some n else None

-- the number that a word of 1 to 20 digits stands for
abbrev pub word_number_of : List ℕ → Option ℕ
word_number_of word = if nat_le (length word) 20 then magnitude_of word else None
