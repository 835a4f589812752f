-- Lists of numbers, seen as the marks of items.
use Rattle.std.proofs.Common.{◌≡◌, ℕ, suc, ◌<◌, ◌-◌, List, [], ◌∷◌, map, length, take, drop, get_or, refl, ap}
use Rattle.std.specs.Prelude.{remove}
use Rattle.std.proofs.lemmas.List.{length-map, map-append, take-map, drop-map, get_or-map}
use Rattle.ho_base.specs.Marks.{number_of}
use Rattle.ho_model.specs.Written.{mark_of}

-- a number is that of its mark
pub numbers_of_marks : (ns : List ℕ) → map number_of (map mark_of ns) ≡ ns
numbers_of_marks [] = refl
numbers_of_marks (n ∷ ns) = ap (λ rest. n ∷ rest) (numbers_of_marks ns)

-- the mark at a place
pub mark_at : (ns : List ℕ) (place d : ℕ) → place < length ns → get_or (map mark_of ns) place [] ≡ mark_of (get_or ns place d)
mark_at ns place d inside = get_or-map mark_of ns place d [] inside

-- without the item at a place, without the first, and without the last
pub marks_without : (ns : List ℕ) (place : ℕ) → map mark_of (remove ns place) ≡ remove (map mark_of ns) place
marks_without ns place =
    rw (map-append mark_of (take place ns) (drop (suc place) ns), ← take-map mark_of place ns, ← drop-map mark_of (suc place) ns)

pub marks_after_first : (ns : List ℕ) → map mark_of (remove ns 0) ≡ drop 1 (map mark_of ns)
marks_after_first [] = refl
marks_after_first (n ∷ ns) = refl

pub marks_before_last : (ns : List ℕ) → map mark_of (take (length ns - 1) ns) ≡ take (length (map mark_of ns) - 1) (map mark_of ns)
marks_before_last ns = rw (length-map ns mark_of, take-map mark_of (length ns - 1) ns)
