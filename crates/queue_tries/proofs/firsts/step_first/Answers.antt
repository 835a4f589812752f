use Rattle.std.proofs.Common.{arith}
use Rattle.queue_tries.proofs.Moving.{ended}
use Rattle.queue_tries.proofs.firsts.step_first.Goals as goal

pub go_on-requires-clause-ended : goal.go_on-requires-clause-ended
go_on-requires-clause-ended c =
    ended c.args.head c.args.first c.args.current c.args.pass.now.view c.requires.head c.requires.first c.requires.current c.requires.other c.look_end-end.result c.look_end-end.new.pass.view c.look_end-end.ensures.read (omega arith)
