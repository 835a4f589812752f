use Rattle.queue_tries.proofs.Fronting.{tail_seen}
use Rattle.queue_tries.proofs.fronts.see_tail.Goals as goal

pub returns-clause-seen : goal.returns-clause-seen
returns-clause-seen c =
    tail_seen c.args.place c.args.head c.load.result c.args.peek c.args.pass.now.view c.load.new.pass.view c.requires.head.0 c.requires.ready.hand c.requires.ready.window c.load.ensures.read
