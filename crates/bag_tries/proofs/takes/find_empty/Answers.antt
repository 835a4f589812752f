use Rattle.std.proofs.Common.{rules, arith, ap, subst, ℕ}
use Rattle.ho_model.specs.declared.marks.CallMark.TheVariants.{Take}
use Rattle.ho_model.specs.declared.marks.ReplyMark.TheVariants as reply
use Rattle.ho_model.specs.Entries.{entry}
use Rattle.bag_rule.specs.Plays.{Sits}
use Rattle.bag_tries.specs.Seats.{MadeEntry}
use Rattle.bag_tries.proofs.Hands.{own_in_hand}
use Rattle.bag_tries.proofs.Settling.{left_entered, left_missed}
use Rattle.bag_tries.proofs.takes.find_empty.Goals as goal

pub leave_list-requires-clause-hand : goal.leave_list-requires-clause-hand
leave_list-requires-clause-hand g c κs within = let e = c.in-Some.ensures.won in
    own_in_hand c.args.seat.now.me c.args.caller c.requires.own (search (rules, arith)) c.empty_exchange.new.seat.me (ap (λ (z : Sits). z.0.keeps) e.1) (ap (λ (z : Sits). z.1) e.1)

pub leave_list-requires-in-None-clause-hand : goal.leave_list-requires-in-None-clause-hand
leave_list-requires-in-None-clause-hand g c κs within = let e = c.in-None.ensures.lost in
    own_in_hand c.args.seat.now.me c.args.caller c.requires.own (search (rules, arith)) c.empty_exchange.new.seat.me (ap (λ (z : Sits). z.0.keeps) e.1.4) (ap (λ (z : Sits). z.1) e.1.4)

pub returns-in-Some-clause-told : goal.returns-in-Some-clause-told
returns-in-Some-clause-told g c = let e = c.in-Some.ensures.won in let v = c.args.seat.now.me.0 in
    subst (λ (z : ℕ). MadeEntry g.T.Item.priority_of v (entry z Take reply.Empty) c.in-Some.place c.leave_list.new.seat.me) c.requires.caller.0
    (left_entered g.T.Item.priority_of c.args.seat.now.me c.args.caller c.requires.own c.requires.may.0.0 _ c.in-Some.place e.0 c.empty_exchange.new.seat.me c.leave_list.new.seat.me e.1 e.2 c.leave_list.ensures.left)

pub returns-in-None-clause-told : goal.returns-in-None-clause-told
returns-in-None-clause-told g c = let e = c.in-None.ensures.lost.1 in
    (e.0, e.1, left_missed g.T.Item.priority_of c.args.seat.now.me c.args.caller c.requires.own c.requires.may.0.0 e.0 e.1 c.empty_exchange.new.seat.me c.leave_list-in-None.new.seat.me c.requires.may.1 e.4 c.leave_list-in-None.ensures.left, e.3, e.5)
