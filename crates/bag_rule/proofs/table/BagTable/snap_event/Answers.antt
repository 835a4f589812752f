use Rattle.std.proofs.Common.{refl}
use Rattle.bag_rule.proofs.Object.{snap_does}
use Rattle.bag_rule.proofs.Asks.{made_entered}
use Rattle.bag_rule.proofs.table.BagTable.snap_event.Goals as goal

pub event_quiet-requires-clause-entry : goal.event_quiet-requires-clause-entry
event_quiet-requires-clause-entry g c κs within = (refl, λ lists a. snap_does lists c.args.seat.now.me.0.caller c.args.numbers.now (c.requires.all lists a))

pub returns-clause-made : goal.returns-clause-made
returns-clause-made g c = made_entered g.T.Item.priority_of _ _ _ _ _ c.event_quiet.ensures.entered
