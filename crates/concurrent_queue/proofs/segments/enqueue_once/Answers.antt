use Rattle.concurrent_queue.proofs.Carrying.{enqueues_as}
use Rattle.concurrent_queue.proofs.segments.enqueue_once.Goals as goal

pub returns-clause-told : goal.returns-clause-told
returns-clause-told c = enqueues_as c.args.table.now c.args.pass.now c.enqueue_once-tried.new.pass c.requires.1 c.enqueue_once-tried.ensures.idle.1.window c.args.value c.enqueue_once-tried.result c.enqueue_once-tried.ensures.told
