use Rattle.std.proofs.Common.{rules, arith}
use Rattle.bag_rule.proofs.Events.{event_changes}
use Rattle.bag_rule.proofs.steps.event_change.Goals as goal

pub fetch_add-requires : goal.fetch_add-requires
fetch_add-requires g c = let m = c.requires.may in let l = c.requires.list in (search rules, search (rules, arith), event_changes _ _ _ _ _ _ _ _ l.0 _ m.0 c.requires.entry m.1 m.2 l.1 c.requires.does.0 c.requires.does.1 l.2)
