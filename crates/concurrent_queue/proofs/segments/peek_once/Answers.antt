use Rattle.concurrent_queue.proofs.Carrying.{peeks_as}
use Rattle.concurrent_queue.proofs.segments.peek_once.Goals as goal

pub returns-clause-told : goal.returns-clause-told
returns-clause-told c = peeks_as c.args.table.now c.args.pass.now c.peek_once-tried.new.pass c.requires.1 c.peek_once-tried.ensures.idle.1.window c.peek_once-tried.result c.peek_once-tried.ensures.told
