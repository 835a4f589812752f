use Rattle.std.proofs.Common.{rules, ◌≡◌, ◌++◌}
use Rattle.passes.specs.Numbers.{HasNumber}
use Rattle.concurrent_bag.proofs.Fields.{lacks}
use Rattle.concurrent_bag.proofs.lasting.add.Goals as goal

pub returns-in-NoMemory-clause-told : goal.returns-in-NoMemory-clause-told
returns-in-NoMemory-clause-told g c =
    let t = c.in-NoMemory.ensures.told in let v = c.seat_of-seat.result.me.0 in
    let own : HasNumber v.held v.caller = search rules in
    let table : c.into_badge.result.table_id ≡ c.args.badge.now.table_id = search rules in
    (t.0, lacks g.T.Item.priority_of c.args.badge.now c.into_badge.result v c.add-added.new.seat.me c.seat_of-seat.ensures.view c.into_badge.ensures.2 table own (t.1 ++ t.2) t.3)
