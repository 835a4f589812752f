use Rattle.std.proofs.Common.{refl, ap, ◌∙◌, sym}
use Rattle.bag_rule.specs.Views.{hand_at}
use Rattle.bag_rule.proofs.Object.{full_does}
use Rattle.bag_rule.proofs.Asks.{made_entered}
use Rattle.bag_rule.proofs.table.BagTable.full_event.Goals as goal

pub event_quiet-requires-clause-entry : goal.event_quiet-requires-clause-entry
event_quiet-requires-clause-entry g c κs within = let v = c.args.seat.now.me.0 in let l = c.requires.list in (refl, full_does v l.0 (ap (hand_at v) c.requires.caller ∙ l.1) (g.T.Item.mark c.args.said.now.value) l.2)

pub returns-clause-made : goal.returns-clause-made
returns-clause-made g c = rw (sym c.requires.caller) (made_entered g.T.Item.priority_of _ _ _ _ _ c.event_quiet.ensures.entered)
