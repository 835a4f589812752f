use Rattle.queue_tries.proofs.Counting.{open_read}
use Rattle.queue_tries.proofs.counts.current_tail.Goals as goal

pub returns-clause-read : goal.returns-clause-read
returns-clause-read c =
    open_read c.args.place c.load.result c.args.pass.now.view c.load.new.pass.view c.requires.plain c.requires.current c.requires.paid.hand c.requires.paid.window c.load.ensures.read
