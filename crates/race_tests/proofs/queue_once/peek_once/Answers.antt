use Rattle.concurrent_queue.proofs.Staying.{peek_stays}
use Rattle.race_tests.proofs.queue_once.peek_once.Goals as goal

pub returns : goal.returns
returns c = peek_stays c.args.queue.now c.args.pass.now c.peek_once.new.pass c.requires c.args.queue.now.first_len c.peek_once.result c.peek_once.ensures
