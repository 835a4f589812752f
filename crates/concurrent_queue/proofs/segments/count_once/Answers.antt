use Rattle.concurrent_queue.proofs.Carrying.{counts_as}
use Rattle.concurrent_queue.proofs.segments.count_once.Goals as goal

pub returns-clause-told : goal.returns-clause-told
returns-clause-told c = counts_as c.args.table.now c.args.pass.now c.count_once-tried.new.pass c.requires.1 c.count_once-tried.ensures.idle.1.window c.count_once-tried.result c.count_once-tried.ensures.told
