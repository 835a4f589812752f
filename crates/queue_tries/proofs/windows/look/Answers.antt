use Rattle.queue_tries.proofs.Windowing.{looks_into}
use Rattle.queue_tries.proofs.windows.look.Goals as goal

pub returns-clause-read : goal.returns-clause-read
returns-clause-read c = looks_into c.args.word c.load.result c.args.pass.now.view c.load.new.pass.view c.requires.may.1 c.requires.free.0 c.requires.free.1 c.load.ensures.read
