-- Lists of callers, of which some have an item.
use Rattle.std.proofs.Common.{◌≡◌, ℕ, zero, suc, ◌<◌, length, [], ◌∷◌, true, false, arith}
use Rattle.ho_model.specs.Queue.{has_item}
use Rattle.ho_model.specs.Bag.{Lists, list_of}

-- a list that has an item is one of the lists
pub has_list : (lists : Lists) (place : ℕ) → has_item (list_of lists place) ≡ true → place < length lists
has_list [] place h = let no : false ≡ true = h in cc
has_list (items ∷ lists) zero h = omega arith
has_list (items ∷ lists) (suc place) h = let rest = has_list lists place h in omega arith
