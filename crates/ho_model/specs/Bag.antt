-- The bag: a list of items for each caller, oldest first. A caller takes its own last item or, where
-- it has none, the first item of some other list, as the reply says.
use Rattle.std.specs.Prelude.{ℕ, ◌-◌, List, [], ◌∷◌, ◌++◌, length, map, take, drop, Option, Some, None, if◌then◌else◌, nat_lt, ◌&&◌, ◌==◌, sum_by, slice_set, slice_index_or, replicate, flat_map}
use Rattle.ho_base.specs.Marks.{Mark, number_of}
use Rattle.ho_model.specs.Entries.{same_mark, CallMark, ReplyMark, Add, Take, Count, Snap, Done, Full, ItemFrom, Empty, Counted, Numbers}
use Rattle.ho_model.specs.Answers.{accepted}
use Rattle.ho_model.specs.Queue.{has_item, first_item}

abbrev pub Lists : Type 0
Lists = List (List Mark)

abbrev pub empty_lists : Lists
empty_lists = replicate 64 []

abbrev pub list_of : Lists → ℕ → List Mark
list_of lists caller = slice_index_or lists caller []

abbrev pub last_item : List Mark → Mark
last_item items = slice_index_or items (length items - 1) []

-- the lists once x is last in the list of a caller, once that list's first item is gone, and once
-- its last is
abbrev pub with_last : Lists → ℕ → Mark → Lists
with_last lists caller x = slice_set lists caller (list_of lists caller ++ x ∷ [])

abbrev pub without_first : Lists → ℕ → Lists
without_first lists caller = slice_set lists caller (drop 1 (list_of lists caller))

abbrev pub without_last : Lists → ℕ → Lists
without_last lists caller =
    let items = list_of lists caller in slice_set lists caller (take (length items - 1) items)

abbrev pub item_count : Lists → ℕ
item_count lists = sum_by length lists

-- the numbers of all items, the lists in order of callers
abbrev pub all_numbers : Lists → List ℕ
all_numbers lists = flat_map (map number_of) lists

abbrev pub most_in_list : ℕ
most_in_list = 16383

abbrev pub added : Lists → ℕ → Mark → ReplyMark × Lists
added lists caller x =
    if nat_lt (length (list_of lists caller)) most_in_list
    then (Done, with_last lists caller x)
    else (Full, lists)

-- a take of item x out of the list of a caller, which may be the taker's own
abbrev pub taken_from : Lists → ℕ → Mark → ℕ → Option Lists
taken_from lists caller x from =
    let own = list_of lists caller in
    let other = list_of lists from in
    if has_item own
    then (if (from == caller) && same_mark x (last_item own) then Some (without_last lists caller) else None)
    else (if has_item other && same_mark x (first_item other) then Some (without_first lists from) else None)

-- the lists after a call with its reply, or None where a bag does not answer so
abbrev pub bag_step : Lists → ℕ → CallMark → ReplyMark → Option Lists
bag_step lists caller (Add x) reply = accepted (Some (added lists caller x)) reply
bag_step lists caller Take (ItemFrom x from) = taken_from lists caller x from
bag_step lists caller Take Empty = if item_count lists == 0 then Some lists else None
bag_step lists caller Count reply = accepted (Some (Counted (item_count lists), lists)) reply
bag_step lists caller Snap reply = accepted (Some (Numbers (all_numbers lists), lists)) reply
bag_step lists caller _ _ = None
