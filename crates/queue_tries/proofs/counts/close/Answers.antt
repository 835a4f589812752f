use Rattle.queue_tries.proofs.Counting.{closes_true, closes_false}
use Rattle.queue_tries.proofs.counts.close.Goals as goal

pub returns-in-Ok-clause-told : goal.returns-in-Ok-clause-told
returns-in-Ok-clause-told c = closes_true c.args.place c.args.at c.args.pass.now.view c.tail_close.new.pass.view c.in-Ok.ensures.won

pub returns-in-Err-clause-told : goal.returns-in-Err-clause-told
returns-in-Err-clause-told c =
    closes_false c.args.place c.args.at c.in-Err.field-0 c.args.pass.now.view c.tail_close.new.pass.view c.requires.may.0 c.in-Err.ensures.lost.0 c.in-Err.ensures.lost.1
