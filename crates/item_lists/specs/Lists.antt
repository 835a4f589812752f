-- A take from lists by caller.
use Rattle.std.specs.Prelude.{◌≡◌, ℕ, position, unwrap_or, if◌then◌else◌}
use Rattle.ho_base.specs.Marks.{Mark}
use Rattle.ho_model.specs.Queue.{has_item, first_item}
use Rattle.ho_model.specs.Bag.{Lists, list_of, last_item, without_first, without_last}

-- the first list that has an item
abbrev pub first_with_item : Lists → ℕ
first_with_item lists = unwrap_or (position has_item lists) 0

-- the list that a caller takes from: its own or, where that has no item, the first that has one
abbrev pub source : Lists → ℕ → ℕ
source lists caller = if has_item (list_of lists caller) then caller else first_with_item lists

-- the item that a caller takes: the last of its own, or else the first of that other list
abbrev pub taken_item : Lists → ℕ → Mark
taken_item lists caller =
    if has_item (list_of lists caller) then last_item (list_of lists caller)
    else first_item (list_of lists (first_with_item lists))

-- the lists once it is gone
abbrev pub lists_without : Lists → ℕ → Lists
lists_without lists caller =
    if has_item (list_of lists caller) then without_last lists caller
    else without_first lists (first_with_item lists)
