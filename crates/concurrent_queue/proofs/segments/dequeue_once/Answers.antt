use Rattle.concurrent_queue.proofs.Carrying.{dequeues_as}
use Rattle.concurrent_queue.proofs.segments.dequeue_once.Goals as goal

pub returns-clause-told : goal.returns-clause-told
returns-clause-told c = dequeues_as c.args.table.now c.args.pass.now c.dequeue_once-tried.new.pass c.requires.1 c.dequeue_once-tried.ensures.idle.1.window c.dequeue_once-tried.result c.dequeue_once-tried.ensures.told
