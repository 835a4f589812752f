use Rattle.std.proofs.Common.{refl, sym, ap, ◌∙◌}
use Rattle.bag_rule.specs.Views.{hand_at}
use Rattle.bag_rule.proofs.Asks.{steal_asks, made_changed}
use Rattle.bag_rule.proofs.table.BagTable.steal_event.Goals as goal

pub event_change-requires-clause-entry : goal.event_change-requires-clause-entry
event_change-requires-clause-entry g c κs within = refl

pub event_change-requires-clause-list : goal.event_change-requires-clause-list
event_change-requires-clause-list g c κs within =
    let v = c.args.seat.now.me.0 in let o = c.requires.own in let l = c.requires.list in
    (steal_asks v c.args.list (g.T.Item.mark c.args.said.now.value) l.0 (ap (hand_at v) o.0 ∙ o.1) l.1 l.2 l.3 l.4).0

pub event_change-requires-clause-does : goal.event_change-requires-clause-does
event_change-requires-clause-does g c κs within =
    let v = c.args.seat.now.me.0 in let o = c.requires.own in let l = c.requires.list in
    let a = steal_asks v c.args.list (g.T.Item.mark c.args.said.now.value) l.0 (ap (hand_at v) o.0 ∙ o.1) l.1 l.2 l.3 l.4 in (a.1, a.2)

pub returns-clause-made : goal.returns-clause-made
returns-clause-made g c = rw (sym c.requires.own.0) (made_changed g.T.Item.priority_of _ _ _ _ _ _ _ c.event_change.ensures.entered)
