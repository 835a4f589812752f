use Rattle.std.proofs.Common.{rules, arith}
use Rattle.bag_rule.proofs.Loads.{loads_tell}
use Rattle.bag_rule.proofs.steps.tell.Goals as goal

pub load-requires : goal.load-requires
load-requires g c = (search rules, search (rules, arith), loads_tell _ _ _ _ _)
