use Rattle.std.proofs.Common.{rules, arith}
use Rattle.bag_rule.proofs.Loads.{loads_begin}
use Rattle.bag_rule.proofs.steps.begin.Goals as goal

pub load-requires : goal.load-requires
load-requires g c = (search rules, search (rules, arith), loads_begin _ _ _ _ _)
