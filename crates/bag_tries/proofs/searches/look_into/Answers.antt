use Rattle.std.proofs.Common.{rules, arith, ap, ◌∙◌, ◌<◌, subst, sym}
use Rattle.atomic_table.specs.Table.{rest}
use Rattle.bag_rule.specs.Plays.{Sits, GotList}
use Rattle.bag_rule.specs.Views.{left_list}
use Rattle.bag_rule.specs.Seats.{InHand}
use Rattle.bag_tries.proofs.Hands.{own_away, own_wide, got_hand}
use Rattle.bag_tries.proofs.Searching.{got_own, got_steals, got_bare}
use Rattle.bag_tries.proofs.searches.look_into.Goals as goal

pub take_list-requires-clause-list : goal.take_list-requires-clause-list
take_list-requires-clause-list g c κs within = (c.requires.list.0, own_away c.args.seat.now.me c.args.caller c.requires.own (search (rules, arith)) c.args.list c.requires.list.1)

pub steal_kept-requires-clause-own : goal.steal_kept-requires-clause-own
steal_kept-requires-clause-own g c κs within =
    let got : GotList g.T.Item.priority_of c.args.seat.now.me.0 c.args.seat.now.me.1 c.args.list c.take_list.new.seat.me = search rules in (
      ap (λ (z : Sits). z.0.caller) got.1 ∙ c.requires.caller.0,
      got_own g.T.Item.priority_of c.args.seat.now.me c.args.caller c.requires.own (search (rules, arith)) c.args.list c.requires.list.1 (search (rules, arith)) c.take_list.new.seat.me got,
    )

pub steal_kept-requires-clause-list : goal.steal_kept-requires-clause-list
steal_kept-requires-clause-list g c κs within =
    let got : GotList g.T.Item.priority_of c.args.seat.now.me.0 c.args.seat.now.me.1 c.args.list c.take_list.new.seat.me = search rules in
    let h = got_hand g.T.Item.priority_of c.args.seat.now.me.0 c.args.seat.now.me.1 c.args.list c.take_list.new.seat.me got (own_wide c.args.seat.now.me c.args.caller c.requires.own (search (rules, arith))) (search (rules, arith)) in
    (subst (λ (z : Sits). c.args.list < z.0.callers) (sym got.1) c.requires.list.0, h.0, h.1)

pub leave_list-requires-clause-hand : goal.leave_list-requires-clause-hand
leave_list-requires-clause-hand g c κs within =
    let got : GotList g.T.Item.priority_of c.args.seat.now.me.0 c.args.seat.now.me.1 c.args.list c.take_list.new.seat.me = search rules in
    let h = got_hand g.T.Item.priority_of c.args.seat.now.me.0 c.args.seat.now.me.1 c.args.list c.take_list.new.seat.me got (own_wide c.args.seat.now.me c.args.caller c.requires.own (search (rules, arith))) (search (rules, arith)) in
    subst (λ (z : Sits). InHand z c.args.list) (sym c.in-None.ensures.none.1) h.0

pub returns-in-Some-clause-told : goal.returns-in-Some-clause-told
returns-in-Some-clause-told g c =
    let got : GotList g.T.Item.priority_of c.args.seat.now.me.0 c.args.seat.now.me.1 c.args.list c.take_list.new.seat.me = search rules in
    got_steals g.T.Item.priority_of c.args.seat.now.me c.args.caller c.requires.own (search (rules, arith)) c.args.list c.requires.list.1 (search (rules, arith)) c.take_list.new.seat.me got g.T.Item.mark _ _ c.steal_kept.new.seat.me c.in-Some.ensures.some

pub returns-in-None-clause-told : goal.returns-in-None-clause-told
returns-in-None-clause-told g c =
    let got : GotList g.T.Item.priority_of c.args.seat.now.me.0 c.args.seat.now.me.1 c.args.list c.take_list.new.seat.me = search rules in
    got_bare g.T.Item.priority_of c.args.seat.now.me c.args.caller c.requires.own (search (rules, arith)) c.args.list c.requires.list.1 (search (rules, arith)) c.take_list.new.seat.me got c.leave_list.new.seat.me c.in-None.ensures.none.0
    (c.leave_list.ensures.left ∙ ap (λ (z : Sits). (left_list z.0 c.args.list, rest z.1)) c.in-None.ensures.none.1)
