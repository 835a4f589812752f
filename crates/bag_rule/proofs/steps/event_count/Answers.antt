use Rattle.std.proofs.Common.{rules, arith}
use Rattle.bag_rule.proofs.Quiets.{event_counts}
use Rattle.bag_rule.proofs.steps.event_count.Goals as goal

pub fetch_add-requires : goal.fetch_add-requires
fetch_add-requires g c = let m = c.requires.may in (search rules, search (rules, arith), event_counts _ _ _ _ _ m.0 m.1 m.2)
