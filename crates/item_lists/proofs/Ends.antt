-- The ends of a list, seen as marks.
use Rattle.std.proofs.Common.{◌≡◌, ◌-◌, List, map, length, take}
use Rattle.std.proofs.lemmas.List.{length-map, take-map}

-- all but the last item
pub map_front : {X Y : Type 0} (f : X → Y) (xs : List X) → map f (take (length xs - 1) xs) ≡ take (length (map f xs) - 1) (map f xs)
map_front f xs = rw (length-map xs f, take-map f (length xs - 1) xs)
