use Rattle.std.proofs.Common.{rules, ◌≡◌}
use Rattle.passes.specs.Numbers.{HasNumber}
use Rattle.concurrent_bag.proofs.Fields.{lacks}
use Rattle.concurrent_bag.proofs.lasting.snapshot.Goals as goal

pub returns-in-Err-clause-told : goal.returns-in-Err-clause-told
returns-in-Err-clause-told g c =
    let t = c.in-Err.ensures.err in let v = c.seat_of-seat.result.me.0 in
    let own : HasNumber v.held v.caller = search rules in
    let table : c.into_badge.result.table_id ≡ c.args.badge.now.table_id = search rules in
    lacks g.T.Item.priority_of c.args.badge.now c.into_badge.result v c.snap-snapped.new.seat.me c.seat_of-seat.ensures.view c.into_badge.ensures.2 table own t.0 t.1
