use Rattle.std.proofs.Common.{rules, ◌≡◌, ◌*◌, arith}
use Rattle.queue_tries.proofs.Fronting.{flight}
use Rattle.queue_tries.proofs.fronts.see_inside.Goals as goal

pub returns-then-number-free_number-clause-seen : goal.returns-then-number-free_number-clause-seen
returns-then-number-free_number-clause-seen c =
    let m = c.measure-slot.ensures.measured in
    let free : c.load-number.result ≡ 2 * c.args.head = search (rules, arith) in
    flight c.args.place c.args.head c.measure-slot.result m.length c.load-number.result c.args.pass.now.view c.measure-slot.new.pass.view c.load-number.new.pass.view m.left m.positive m.slot_is c.requires.head.0 c.requires.first c.requires.ready.hand c.requires.ready.window c.load-number.ensures.read c.requires.plain c.requires.inside free
