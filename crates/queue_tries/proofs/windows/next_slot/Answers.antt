use Rattle.queue_tries.proofs.Windowing.{lies_measured}
use Rattle.queue_tries.proofs.windows.next_slot.Goals as goal

pub returns-clause-lies : goal.returns-clause-lies
returns-clause-lies c = lies_measured c.args.pass.now c.look-length.new.pass c.args.window.now c.look-length.result c.slot_of.result c.requires.at c.requires.left c.look-length.ensures.read c.slot_of.ensures.value
