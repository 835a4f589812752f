use Rattle.std.proofs.Common.{arith}
use Rattle.queue_snapshot.proofs.Repeating.{span_is}
use Rattle.queue_snapshot.proofs.observed.observe.Goals as goal

pub returns-clause-live : goal.returns-clause-live
returns-clause-live g c = let made = c.open-receipt.ensures in record {
  inside = made.of;
  opened = made.opened;
  count =
      let all = span_is c.args.queue.now c.args.pass.now c.open-receipt.new.pass c.args.queue.now.first_len c.open-receipt.result.0 c.open-receipt.result.1 c.requires made.opens.0 in
      let left = c.span-left.ensures in
      let unread = made.opens.1 in omega arith;
}
