use Rattle.std.proofs.Common.{◌%◌, nat_eq, refl}
use Rattle.queue_tries.proofs.Windowing.{sees_number}
use Rattle.queue_tries.proofs.windows.is_published.Goals as goal

pub returns-clause-seen : goal.returns-clause-seen
returns-clause-seen c =
    sees_number c.args.pass.now c.look-number.new.pass c.args.window.now c.args.slot c.look-number.result c.requires.lies c.requires.left c.look-number.ensures.read (nat_eq (c.look-number.result % 2) 1) refl
