use Rattle.std.proofs.Common.{rules, ◌≡◌, ◌∷◌, [], sym, subst}
use Rattle.bag_rule.specs.Views.{without, alone}
use Rattle.concurrent_bag.proofs.Fields.{Agree, agree_of, pass_of, left_agrees, right_agrees}
use Rattle.concurrent_bag.proofs.once.split.Goals as goal

pub returns-clause-pass : goal.returns-clause-pass
returns-clause-pass g c =
    let n = c.args.numbers.now in let v = c.seat_of-seat.result.me.0 in let number = c.split_off-other_numbers.result.caller in
    let a = agree_of c.args.badge.now v n c.seat_of-seat.ensures.view c.requires.pass in
    let has = c.split_off-other_numbers.ensures.spare.0 in
    let left : c.into_badge.result.views ≡ without v number ∷ [] = search rules in
    let right : c.into_badge-2.result.views ≡ alone v number ∷ [] = search rules in
    let table : c.into_badge.result.table_id ≡ c.args.badge.now.table_id = search rules in
    let table' : c.into_badge-2.result.table_id ≡ c.args.badge.now.table_id = search rules in (
      pass_of c.into_badge.result (without v number) c.split_off-other_numbers.new.self left
          (subst (λ z. Agree z (without v number) c.split_off-other_numbers.new.self) (sym table) (left_agrees c.args.badge.now.table_id v n a number has c.split_off-other_numbers.new.self c.split_off-other_numbers.ensures.kept)),
      pass_of c.into_badge-2.result (alone v number) c.split_off-other_numbers.result right
          (subst (λ z. Agree z (alone v number) c.split_off-other_numbers.result) (sym table') (right_agrees c.args.badge.now.table_id v n a number has c.split_off-other_numbers.result c.split_off-other_numbers.ensures.given)),
    )
