use Rattle.std.proofs.Common.{◌≡◌, List, [], replicate}
use Rattle.ho_base.specs.Marks.{Mark}
use Rattle.item_lists.proofs.caller_lists.CallerLists.new.Given as goal

abbrev pub invariant-loop : goal.invariant-loop
invariant-loop g l = l.lists.items ≡ replicate l.counter []
