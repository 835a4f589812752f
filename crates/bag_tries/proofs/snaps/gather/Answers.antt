use Rattle.std.proofs.Common.{rules, arith, ◌≡◌, ◌+◌, ◌++◌, subst, sym, ap, ◌∙◌}
use Rattle.std.specs.Prelude.{map}
use Rattle.ho_base.specs.Marks.{number_of}
use Rattle.bag_rule.specs.Plays.{Sits}
use Rattle.bag_rule.specs.Seats.{front_of}
use Rattle.bag_tries.specs.Snaps.{Gathers, numbers_of}
use Rattle.bag_tries.proofs.Gathering.{gathers_more, next_away}
use Rattle.bag_tries.proofs.snaps.gather.Goals as goal

pub take_at_last-requires-clause-list : goal.take_at_last-requires-clause-list
take_at_last-requires-clause-list g c κs within = let i = c.loop-list.invariant in (search rules, next_away c.loop-list.seat.me c.loop-list.list i.1.keeps)

pub returns-then-is_err-clause-some : goal.returns-then-is_err-clause-some
returns-then-is_err-clause-some g c = let i = c.loop-list.invariant in let v = c.args.seat.now.me.0 in (
  subst (λ (z : Sits). Gathers g.T.Item.priority_of v z (c.loop-list.list + 1)) (sym c.add_numbers.ensures.same.1) (gathers_more g.T.Item.priority_of v c.loop-list.seat.me c.take_at_last.new.seat.me c.loop-list.list i.1 c.take_at_last.ensures.got),
  omega arith,
  search (rules, arith),
)

pub loop-list-preserved : goal.loop-list-preserved
loop-list-preserved g c = let i = c.loop-list.invariant in let v = c.args.seat.now.me.0 in let got = c.take_at_last.ensures.got in
    let added : c.add_numbers.new.numbers.items ≡ c.loop-list.numbers.items ++ map number_of (front_of c.take_at_last.new.seat.me.1) = search rules in (
      search rules,
      subst (λ (z : Sits). Gathers g.T.Item.priority_of v z (c.loop-list.list + 1)) (sym c.add_numbers.ensures.same.1) (gathers_more g.T.Item.priority_of v c.loop-list.seat.me c.take_at_last.new.seat.me c.loop-list.list i.1 got),
      added ∙ ((λ k. i.2 k ++ map number_of (front_of (got.1.1 k).1)) ∙ sym (ap (λ (z : Sits). numbers_of z.1) (c.add_numbers.ensures.same.1 ∙ got.1.1))),
    )
