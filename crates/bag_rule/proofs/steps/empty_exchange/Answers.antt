use Rattle.std.proofs.Common.{rules, arith}
use Rattle.bag_rule.proofs.Quiets.{event_empties}
use Rattle.bag_rule.proofs.steps.empty_exchange.Goals as goal

pub compare_exchange-requires : goal.compare_exchange-requires
compare_exchange-requires g c = let m = c.requires.may in let w = c.requires.word in (search rules, search (rules, arith), event_empties _ _ _ _ _ _ m.0 m.1 m.2 w.0 w.1)
