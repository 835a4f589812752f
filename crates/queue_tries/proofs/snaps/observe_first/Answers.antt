use Rattle.queue_tries.proofs.Snapping.{observes_first}
use Rattle.queue_tries.proofs.snaps.observe_first.Goals as goal

pub returns-clause-observed : goal.returns-clause-observed
returns-clause-observed c = observes_first c.args.current c.args.tail c.args.first c.args.pass.now.view c.observe_add.new.pass.view c.requires.closed c.observe_add.ensures.observed
