use Rattle.concurrent_queue.proofs.Staying.{count_stays}
use Rattle.race_tests.proofs.queue_once.count_once.Goals as goal

pub returns : goal.returns
returns c = count_stays c.args.queue.now c.args.pass.now c.count_once.new.pass c.requires c.args.queue.now.first_len c.count_once.result c.count_once.ensures
