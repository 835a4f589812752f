use Rattle.std.proofs.Common.{arith}
use Rattle.weave.proofs.Behind.{within, stood_first, then_behind}
use Rattle.weave.proofs.queue.take_turn.Goals as goal

pub ahead_behind-requires : goal.ahead_behind-requires
ahead_behind-requires c = stood_first c.args.cursors.now.items c.take_next.new.cursors.items c.args.aheads.now.items c.args.i c.in_ok-entry.entry c.in_ok-entry.ensures c.requires.ahead c.index.result.now c.index-3.result.now c.index-2.result.now c.index-index-0.result c.index.ensures c.index-3.ensures c.index-2.ensures

pub index_mut-requires : goal.index_mut-requires
index_mut-requires c = let lt = within c.args.cursors.now.items c.args.aheads.now.items c.args.i c.requires.next c.requires.ahead in omega (arith, lt, c.args.aheads.now.ok)

pub returns-clause-ahead : goal.returns-clause-ahead
returns-clause-ahead c = then_behind c.args.cursors.now.items c.take_next.new.cursors.items c.args.aheads.now.items c.args.i c.in_ok-entry.entry c.in_ok-entry.ensures c.requires.ahead c.index-3.result.now c.ahead_behind.result c.index-3.ensures c.ahead_behind.ensures
