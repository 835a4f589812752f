use Rattle.std.proofs.Common.{rules, arith, ◌≡◌, ◌≤◌, sym, ◌∙◌}
use Rattle.bag_tries.specs.Snaps.{Gathers, numbers_of}
use Rattle.bag_tries.proofs.Gathering.{all_shown}
use Rattle.bag_tries.proofs.snaps.snap.Goals as goal

pub snap_event-place-requires-clause-all : goal.snap_event-place-requires-clause-all
snap_event-place-requires-clause-all g c κs within lists a =
    let n = c.args.seat.now.me.0.callers in
    let gathers : Gathers g.T.Item.priority_of c.args.seat.now.me.0 c.gather.new.seat.me n = search rules in
    let its : c.from_vec-items.result ≡ numbers_of c.gather.new.seat.me.1 = search rules in
    let low : n ≤ 64 = search (rules, arith) in
    all_shown lists c.gather.new.seat.me n low gathers.has_read.callers gathers.keeps a ∙ sym its
