use Rattle.std.proofs.Common.{refl, sym, ap, ◌∙◌, subst, rules, arith, ◌≡◌, ◌<◌, [], ◌∷◌, false, true}
use Rattle.std.specs.Prelude.{None}
use Rattle.bag_rule.specs.declared.view.Obstacle.TheVariants.{Event}
use Rattle.bag_rule.specs.declared.view.Hand.TheVariants.{Kept}
use Rattle.bag_rule.specs.declared.view.View.{View}
use Rattle.bag_rule.specs.Views.{hand_at}
use Rattle.bag_rule.specs.Plays.{Sits}
use Rattle.bag_tries.specs.Seats.{HasOwnBare}
use Rattle.bag_tries.specs.Takes.{item_entry}
use Rattle.bag_tries.proofs.Hands.{own_in_hand, own_kept}
use Rattle.bag_tries.proofs.Lifts.{lift_entry}
use Rattle.bag_tries.proofs.Settling.{began_later, goes_empty, left_robbed, bare_round, settled, some_items, no_items}
use Rattle.bag_tries.proofs.takes.take_elsewhere.Goals as goal

pub returns-then-word-eq0-clause-told : goal.returns-then-word-eq0-clause-told
returns-then-word-eq0-clause-told g c = let e = c.begin-word.ensures.read in
    goes_empty g.T.Item.priority_of g.T.Item.mark c.args.caller c.args.seat.now.me.0 c.begin-word.new.seat.me.0 e.0 e.1 c.find_empty.new.seat.me (ap (λ (z : Sits). z.0) e.3) e.4 (no_items _ e.0 e.1 e.2 c.if-word-eq0.true) c.find_empty.result c.find_empty.ensures.told

pub leave_list-requires-clause-hand : goal.leave_list-requires-clause-hand
leave_list-requires-clause-hand g c κs within = let e = c.begin-word.ensures.read in let s = c.in-Stolen.ensures.told in
    own_in_hand c.args.seat.now.me c.args.caller c.requires.own (search (rules, arith)) c.look_round.new.seat.me
    (ap (λ (z : Sits). z.0.keeps) s.3 ∙ ap (λ (z : Sits). z.0.keeps) e.3) (ap (λ (z : Sits). z.1) s.3 ∙ ap (λ (z : Sits). z.1) e.3)

pub settle-requires-clause-bare : goal.settle-requires-clause-bare
settle-requires-clause-bare g c κs within _ = let e = c.begin-word.ensures.read in let r = c.in-Bare.ensures.told in
    let b = c.begin-word.new.seat.me.0 in let w = c.look_round.new.seat.me.0 in
    let kept : hand_at w c.args.caller ≡ Kept [] = ap (λ (z : View). hand_at z c.args.caller) (r.0.is) ∙ (ap (λ (z : Sits). hand_at z.0 c.args.caller) e.3 ∙ own_kept c.args.seat.now.me c.args.caller c.requires.own (search (rules, arith))) in
    let low : c.args.caller < b.callers = subst (λ (z : Sits). c.args.caller < z.0.callers) (sym e.3) c.requires.caller.1 in
    bare_round c.args.caller b w b.callers r.0 refl low kept

pub returns-in-Stolen-clause-told : goal.returns-in-Stolen-clause-told
returns-in-Stolen-clause-told g c = let e = c.begin-word.ensures.read in let s = c.in-Stolen.ensures.told in
    let b = c.begin-word.new.seat.me in let pr = g.T.Item.priority_of in
    let own : HasOwnBare b c.args.caller = (ap (λ (z : Sits). z.0.keeps) e.3 ∙ c.requires.own.0, ap (λ (z : Sits). z.1) e.3 ∙ c.requires.own.1) in
    let idle : b.0.joint ≡ None = ap (λ (z : Sits). z.0.joint) e.3 ∙ c.requires.may.0.0 in
    let entry = item_entry pr g.T.Item.mark c.args.caller c.in-Stolen.item c.in-Stolen.from in
    lift_entry pr c.args.seat.now.me.0 b.0 (Event e.0 e.1 ∷ []) (began_later c.args.seat.now.me.0 b.0 e.0 e.1 (ap (λ (z : Sits). z.0) e.3)) c.leave_list.new.seat.me entry c.in-Stolen.place
    (left_robbed pr b c.args.caller own idle entry c.in-Stolen.place s.0 s.1 s.2 c.look_round.new.seat.me c.leave_list.new.seat.me s.3 s.4 c.leave_list.ensures.left)

pub returns-in-Bare-clause-told : goal.returns-in-Bare-clause-told
returns-in-Bare-clause-told g c = let e = c.begin-word.ensures.read in let r = c.in-Bare.ensures.told in
    let v = c.args.seat.now.me.0 in let b = c.begin-word.new.seat.me.0 in
    let low : c.args.caller < b.callers = subst (λ (z : Sits). c.args.caller < z.0.callers) (sym e.3) c.requires.caller.1 in
    settled g.T.Item.priority_of g.T.Item.mark c.args.caller v b c.look_round.new.seat.me.0 e.0 e.1 b.callers (ap (λ (z : Sits). z.0) e.3) e.4 (some_items _ e.0 e.1 e.2 c.if-word-eq0.false) refl low false r.0 c.settle.new.seat.me c.settle.result c.settle.ensures.told

pub returns-in-Skipped-clause-told : goal.returns-in-Skipped-clause-told
returns-in-Skipped-clause-told g c = let e = c.begin-word.ensures.read in let r = c.in-Skipped.ensures.told in
    let v = c.args.seat.now.me.0 in let b = c.begin-word.new.seat.me.0 in
    let low : c.args.caller < b.callers = subst (λ (z : Sits). c.args.caller < z.0.callers) (sym e.3) c.requires.caller.1 in
    settled g.T.Item.priority_of g.T.Item.mark c.args.caller v b c.look_round.new.seat.me.0 e.0 e.1 b.callers (ap (λ (z : Sits). z.0) e.3) e.4 (some_items _ e.0 e.1 e.2 c.if-word-eq0.false) refl low true r.0 c.settle-in-Skipped.new.seat.me c.settle-in-Skipped.result c.settle-in-Skipped.ensures.told
