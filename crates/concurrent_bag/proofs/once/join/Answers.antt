use Rattle.std.proofs.Common.{rules, ◌≡◌, ◌∷◌, [], sym, ◌∙◌, subst}
use Rattle.bag_rule.specs.Views.{joined, told}
use Rattle.concurrent_bag.proofs.Fields.{Agree, agree_of, pass_of, joined_agrees}
use Rattle.concurrent_bag.proofs.once.join.Goals as goal

pub returns-clause-pass : goal.returns-clause-pass
returns-clause-pass g c =
    let v = c.seat_of-seat.result.me.0 in let w = c.into_seat.result.me.0 in
    let a = agree_of c.args.badge.now v c.args.numbers.now c.seat_of-seat.ensures.view c.requires.pass.0 in
    let other : c.args.other.views ≡ w ∷ [] = search rules in
    let b = agree_of c.args.other w c.args.other_numbers other c.requires.pass.1 in
    let same : c.args.other.table_id ≡ c.args.badge.now.table_id = c.requires.table.1 ∙ sym c.requires.table.0 in
    let views : c.into_badge.result.views ≡ told (joined v w) ∷ [] = search rules in
    let table : c.into_badge.result.table_id ≡ c.args.badge.now.table_id = search rules in
    pass_of c.into_badge.result (told (joined v w)) c.take_in-2.new.self views
    (subst (λ z. Agree z (told (joined v w)) c.take_in-2.new.self) (sym table)
    (joined_agrees c.args.badge.now.table_id v w c.args.numbers.now c.args.other_numbers c.take_in-2.new.self a (subst (λ z. Agree z w c.args.other_numbers) same b) c.take_in-2.ensures))
