use Rattle.concurrent_queue.proofs.Staying.{enqueue_stays}
use Rattle.race_tests.proofs.queue_once.enqueue_once.Goals as goal

pub returns : goal.returns
returns c = enqueue_stays c.args.queue.now c.args.pass.now c.enqueue_once.new.pass c.requires c.args.queue.now.first_len c.args.number c.enqueue_once.result c.enqueue_once.ensures
