use Rattle.std.proofs.Common.{◌≡◌, ◌++◌, map, take}
use Rattle.std.specs.VecDeque.{deque_items}
use Rattle.ho_base.specs.Marks.{number_of}
use Rattle.item_lists.proofs.item_list.ItemList.add_numbers.Given as goal

abbrev pub invariant-loop-i : goal.invariant-loop-i
invariant-loop-i g l =
    l.numbers.items ≡ l.initial.numbers.items ++ map number_of (take l.i (map g.T.Marked.mark (deque_items l.self-inside.items)))
