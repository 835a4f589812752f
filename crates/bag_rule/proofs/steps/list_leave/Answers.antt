use Rattle.std.proofs.Common.{rules, arith}
use Rattle.bag_rule.proofs.Leaving.{list_leaves}
use Rattle.bag_rule.proofs.steps.list_leave.Goals as goal

pub store-requires : goal.store-requires
store-requires g c = let h = c.requires.hand in (search rules, search (rules, arith), rw (c.list_word.ensures, c.requires.list.0) (list_leaves _ _ _ _ _ _ _ _ h.1 h.0))
