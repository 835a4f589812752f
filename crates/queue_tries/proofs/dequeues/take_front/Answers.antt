use Rattle.queue_tries.proofs.Searching.{taken_there, misses_head}
use Rattle.queue_tries.proofs.dequeues.take_front.Goals as goal

pub give_back-requires-clause-hand : goal.give_back-requires-clause-hand
give_back-requires-clause-hand c = taken_there c.args.place c.args.head c.args.item c.args.pass.now.view c.head_take.new.pass.view c.requires.front c.in-Ok.ensures.won

pub returns-in-Err-clause-told : goal.returns-in-Err-clause-told
returns-in-Err-clause-told c = misses_head c.args.head c.in-Err.field-0 c.args.pass.now.view c.head_take.new.pass.view c.in-Err.ensures.lost.1
