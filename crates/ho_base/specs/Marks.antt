-- What contracts see of an item.
use Rattle.std.specs.Prelude.{ℕ, ◌/◌, List, [], ◌∷◌}

-- a list of numbers, of which the first is the item's own number
abbrev pub Mark : Type 0
Mark = List ℕ

-- the number of an item with this mark
abbrev pub number_of : Mark → ℕ
number_of [] = 0
number_of (n ∷ rest) = n

-- the priority of an item that is a number: a thousand numbers share one
abbrev pub number_priority : Mark → ℕ
number_priority mark = number_of mark / 1000
