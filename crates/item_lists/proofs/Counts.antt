-- The count of items in lists by caller.
use Rattle.std.proofs.Common.{◌≡◌, ℕ, ◌+◌, ◌<◌, ◌≤◌, List, [], ◌∷◌, length, true, arith, refl, rules}
use Rattle.std.specs.Prelude.{None, position}
use Rattle.std.specs.List.{position_or_len}
use Rattle.std.proofs.lemmas.Grind.{common_steps}
use Rattle.ho_model.specs.Queue.{has_item}
use Rattle.ho_model.specs.Bag.{Lists, item_count}

-- where no list has an item, there is none
none_counted : (lists : Lists) → length lists ≤ position_or_len has_item lists → item_count lists ≡ 0
none_counted [] h = refl
none_counted ([] ∷ lists) h = none_counted lists (omega arith)
none_counted ((x ∷ items) ∷ lists) h = absurd (grind (arith, common_steps))

pub none_found : (lists : Lists) → position has_item lists ≡ None → item_count lists ≡ 0
none_found lists h = none_counted lists (grind (arith, common_steps))
