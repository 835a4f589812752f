use Rattle.queue_tries.proofs.Placing.{looks}
use Rattle.queue_tries.proofs.scans.look_at_observers.Goals as goal

pub returns-clause-tried : goal.returns-clause-tried
returns-clause-tried c = looks c.args.place c.requires.candidate.0 c.requires.candidate.1 c.args.pass.now.view c.load-observers.new.pass.view c.args.current c.args.head c.load-observers.result c.requires.hand c.requires.stage c.requires.scan c.requires.candidate.2 c.load-observers.ensures.read
