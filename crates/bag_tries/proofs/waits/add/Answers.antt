use Rattle.std.proofs.Common.{rules, ◌≡◌, ◌++◌, ◌∙◌}
use Rattle.bag_rule.specs.Seats.{IsSame}
use Rattle.bag_tries.proofs.Ends.{none_read, held_later}
use Rattle.bag_tries.proofs.Lifts.{read_on}
use Rattle.bag_tries.proofs.waits.add.Goals as goal

pub loop-preserved : goal.loop-preserved
loop-preserved g c =
    let i = c.loop.invariant in let t = c.in-Held.ensures.told in
    let v = c.args.seat.now.me.0 in let w = c.loop.seat.me.0 in let m = c.try_add.new.seat.me in
    let read = i.3 in (
      t.0 ∙ i.0,
      search rules,
      t.2.back.idle,
      read ++ t.1,
      read_on v w m.0 read t.1 i.4 (none_read g.T.Item.priority_of w t.1 m t.2),
      held_later c.args.caller v w read i.4 i.5 t.1 t.3,
    )
