use Rattle.std.proofs.Common.{rules, arith}
use Rattle.bag_rule.proofs.Quiets as quiets
use Rattle.bag_rule.proofs.steps.event_quiet.Goals as goal

pub fetch_add-requires : goal.fetch_add-requires
fetch_add-requires g c = let m = c.requires.may in let e = c.requires.entry in (search rules, search (rules, arith), quiets.event_quiet _ _ _ _ _ _ m.0 e.0 m.1 m.2 e.1)
