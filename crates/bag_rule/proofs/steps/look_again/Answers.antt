use Rattle.std.proofs.Common.{rules, arith}
use Rattle.bag_rule.proofs.Loads.{loads_look}
use Rattle.bag_rule.proofs.steps.look_again.Goals as goal

pub load-requires : goal.load-requires
load-requires g c = (search rules, search (rules, arith), loads_look _ _ _ _ _)
