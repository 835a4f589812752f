use Rattle.std.proofs.Common.{◌≡◌, ◌++◌, take}
use Rattle.ho_model.specs.Bag.{all_numbers}
use Rattle.item_lists.proofs.caller_lists.CallerLists.add_numbers.Given as goal

abbrev pub invariant-loop-list : goal.invariant-loop-list
invariant-loop-list g l = l.numbers.items ≡ l.initial.numbers.items ++ all_numbers (take l.list-index l.list-items)
