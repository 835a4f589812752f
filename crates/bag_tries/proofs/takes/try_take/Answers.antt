use Rattle.std.proofs.Common.{sym, subst, rules, [], ◌∷◌}
use Rattle.bag_rule.specs.Plays.{Sits, GotList}
use Rattle.bag_rule.specs.declared.view.Obstacle.TheVariants.{Bare}
use Rattle.bag_rule.proofs.Joining.{free_hand}
use Rattle.bag_tries.specs.Takes.{item_entry}
use Rattle.bag_tries.specs.Seats.{HasRead}
use Rattle.bag_tries.proofs.Adding.{changed_ends}
use Rattle.bag_tries.proofs.Settling.{goes_take, got_later}
use Rattle.bag_tries.proofs.takes.try_take.Goals as goal

pub take_list-requires-clause-list : goal.take_list-requires-clause-list
take_list-requires-clause-list g c κs within = (search rules, free_hand c.args.seat.now.me.0 c.requires.idle.0 c.args.caller)

pub returns-in-Some-clause-told : goal.returns-in-Some-clause-told
returns-in-Some-clause-told g c =
    let got : GotList g.T.Item.priority_of c.args.seat.now.me.0 c.args.seat.now.me.1 c.args.caller c.take_list.new.seat.me = search rules in
    let k = c.in-Some.ensures.some in
    changed_ends g.T.Item.priority_of c.args.seat.now.me c.requires.idle c.args.caller c.take_list.new.seat.me got (item_entry g.T.Item.priority_of g.T.Item.mark c.args.caller c.in-Some.item c.args.caller) _ c.in-Some.place k.0 c.take_kept.new.seat.me k.1 k.2

pub returns-in-None-clause-told : goal.returns-in-None-clause-told
returns-in-None-clause-told g c =
    let got : GotList g.T.Item.priority_of c.args.seat.now.me.0 c.args.seat.now.me.1 c.args.caller c.take_list.new.seat.me = search rules in
    let none = c.in-None.ensures.none in let v = c.args.seat.now.me.0 in
    let later = got_later g.T.Item.priority_of c.args.seat.now.me c.args.caller c.take_list.new.seat.me got none.0 in
    goes_take g.T.Item.priority_of g.T.Item.mark c.args.caller v c.take_kept.new.seat.me.0 (subst (λ (z : Sits). HasRead v z.0 (Bare c.args.caller ∷ [])) (sym none.1) later) c.take_elsewhere.new.seat.me c.take_elsewhere.result c.take_elsewhere.ensures.told
