use Rattle.queue_tries.proofs.Placing.{passes_current}
use Rattle.queue_tries.proofs.scans.try_place.Goals as goal

pub returns-then-place-current-clause-tried : goal.returns-then-place-current-clause-tried
returns-then-place-current-clause-tried c = passes_current c.args.pass.now.view c.args.current c.args.head c.args.place c.requires.scan c.if-place-current.true
