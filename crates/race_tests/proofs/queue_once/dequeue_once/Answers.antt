use Rattle.concurrent_queue.proofs.Staying.{dequeue_stays}
use Rattle.race_tests.proofs.queue_once.dequeue_once.Goals as goal

pub returns : goal.returns
returns c = dequeue_stays c.args.queue.now c.args.pass.now c.dequeue_once.new.pass c.requires c.args.queue.now.first_len c.dequeue_once.result c.dequeue_once.ensures
