use Rattle.std.proofs.Common.{refl}
use Rattle.queue_tries.proofs.Growing.{prepared_here}
use Rattle.queue_tries.proofs.growth.write_numbers.Goals as goal

pub loop-slot-init : goal.loop-slot-init
loop-slot-init c = (refl, prepared_here c.args.pass.now.view c.args.current c.args.place c.args.tail c.args.length 4 c.requires.stage c.requires.blank)
