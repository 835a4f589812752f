use Rattle.std.proofs.Common.{rules, ◌≢◌, ◌+◌, ◌*◌, arith}
use Rattle.queue_tries.proofs.Fronting.{bare}
use Rattle.queue_tries.proofs.fronts.see_first.Goals as goal

pub returns-else-load-published_number-clause-seen : goal.returns-else-load-published_number-clause-seen
returns-else-load-published_number-clause-seen c =
    let m = c.measure-slot.ensures.measured in
    let other : c.load.result ≢ 2 * c.args.head + 1 = search (rules, arith) in
    bare c.args.place c.args.head c.measure-slot.result m.length c.load.result c.args.pass.now.view c.measure-slot.new.pass.view c.load.new.pass.view m.left m.positive m.slot_is c.requires.head.0 c.requires.first c.requires.ready.hand c.requires.ready.window c.load.ensures.read c.requires.away other
