use Rattle.std.proofs.Common.{refl}
use Rattle.queue_tries.proofs.Growing.{observes}
use Rattle.queue_tries.proofs.growth.see_observers.Goals as goal

pub returns-clause-seen : goal.returns-clause-seen
returns-clause-seen c = (
  c.load.result,
  observes c.args.pass.now.view c.load.new.pass.view c.args.current c.args.current c.args.tail c.args.place c.load.result c.requires.hand c.requires.stage c.load.ensures.read,
  refl,
)
