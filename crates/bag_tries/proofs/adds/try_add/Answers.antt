use Rattle.std.proofs.Common.{rules}
use Rattle.bag_rule.specs.Plays.{GotList}
use Rattle.bag_rule.proofs.Joining.{free_hand}
use Rattle.bag_tries.proofs.Adding.{adds_end}
use Rattle.bag_tries.proofs.adds.try_add.Goals as goal

pub take_list-requires-clause-list : goal.take_list-requires-clause-list
take_list-requires-clause-list g c κs within = (search rules, free_hand c.args.seat.now.me.0 c.requires.idle.0 c.args.caller)

pub returns-clause-told : goal.returns-clause-told
returns-clause-told g c =
    let got : GotList g.T.Item.priority_of c.args.seat.now.me.0 c.args.seat.now.me.1 c.args.caller c.take_list.new.seat.me = search rules in
    adds_end g.T.Item.priority_of c.args.seat.now.me c.requires.idle c.args.caller c.take_list.new.seat.me got g.T.Item.mark c.args.item c.add_kept.new.seat.me c.add_kept.result c.add_kept.ensures.told
