use Rattle.std.proofs.Common.{sym}
use Rattle.bag_rule.proofs.Asks.{add_asks, made_changed}
use Rattle.bag_rule.proofs.table.BagTable.add_event.Goals as goal

pub event_change-requires-clause-entry : goal.event_change-requires-clause-entry
event_change-requires-clause-entry g c κs within = sym c.requires.caller

pub event_change-requires-clause-list : goal.event_change-requires-clause-list
event_change-requires-clause-list g c κs within = let l = c.requires.list in (add_asks c.args.seat.now.me.0 c.args.caller c.requires.caller l.0 l.1 (g.T.Item.mark c.args.said.now.value) l.2).0

pub event_change-requires-clause-does : goal.event_change-requires-clause-does
event_change-requires-clause-does g c κs within = let l = c.requires.list in let a = add_asks c.args.seat.now.me.0 c.args.caller c.requires.caller l.0 l.1 (g.T.Item.mark c.args.said.now.value) l.2 in (a.1, a.2)

pub returns-clause-made : goal.returns-clause-made
returns-clause-made g c = made_changed g.T.Item.priority_of _ _ _ _ _ _ _ c.event_change.ensures.entered
