use Rattle.std.proofs.Common.{rules, arith, ap, ◌≡◌, ◌≢◌, inl}
use Rattle.bag_rule.specs.Plays.{Sits}
use Rattle.bag_tries.proofs.Hands.{own_in_hand}
use Rattle.bag_tries.proofs.Settling.{left_looked, some_items, no_items, settles_empty}
use Rattle.bag_tries.proofs.takes.settle.Goals as goal

pub returns-then-word-eq0-clause-told : goal.returns-then-word-eq0-clause-told
returns-then-word-eq0-clause-told g c = let e = c.look_again-word.ensures.read in
    settles_empty g.T.Item.priority_of g.T.Item.mark c.args.caller c.args.seat.now.me.0 c.look_again-word.new.seat.me.0 c.args.skipped e.0 e.1 c.find_empty.new.seat.me (ap (λ (z : Sits). z.0) e.3) e.6 (no_items _ e.0 e.1 e.2 c.if-word-eq0.true) c.find_empty.result c.find_empty.ensures.told

pub leave_list-requires-clause-hand : goal.leave_list-requires-clause-hand
leave_list-requires-clause-hand g c κs within = let e = c.look_again-word.ensures.read in
    own_in_hand c.args.seat.now.me c.args.caller c.requires.own (search (rules, arith)) c.look_again-word.new.seat.me (ap (λ (z : Sits). z.0.keeps) e.3) (ap (λ (z : Sits). z.1) e.3)

pub returns-then-skipped-clause-told : goal.returns-then-skipped-clause-told
returns-then-skipped-clause-told g c = let e = c.look_again-word.ensures.read in (
  c.if-skipped.true,
  e.0,
  e.1,
  left_looked g.T.Item.priority_of c.args.seat.now.me c.args.caller c.requires.own c.requires.may.0.0 e.0 e.1 c.look_again-word.new.seat.me c.leave_list.new.seat.me c.requires.may.1 e.3 c.leave_list.ensures.left,
  some_items _ e.0 e.1 e.2 c.if-word-eq0.false,
)

pub returns-else-skipped-clause-told : goal.returns-else-skipped-clause-told
returns-else-skipped-clause-told g c = let e = c.look_again-word.ensures.read in
    let some_item = some_items _ e.0 e.1 e.2 c.if-word-eq0.false in
    let since = c.args.seat.now.me.0.since in
    let not_same : since ≢ e.0 = (λ (same : since ≡ e.0). let none = e.5 (c.requires.bare c.if-skipped.false) same in omega arith) in
    let not_after = e.4 in
    (e.0, e.1, e.6, inl (c.if-skipped.false, left_looked g.T.Item.priority_of c.args.seat.now.me c.args.caller c.requires.own c.requires.may.0.0 e.0 e.1 c.look_again-word.new.seat.me c.leave_list.new.seat.me c.requires.may.1 e.3 c.leave_list.ensures.left, omega arith, some_item))
