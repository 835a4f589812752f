use Rattle.concurrent_queue.proofs.Carrying.{splits_as, split_kept, split_given}
use Rattle.concurrent_queue.proofs.segments.split.Goals as goal

pub returns-clause-pass : goal.returns-clause-pass
returns-clause-pass c =
    let b = c.requires.of.0 in
    (split_kept c.args.pass.now c.split.new.pass c.split.result c.split.ensures b, split_given c.args.pass.now c.split.new.pass c.split.result c.split.ensures b)

pub returns-clause-split : goal.returns-clause-split
returns-clause-split c = splits_as c.args.pass.now c.split.new.pass c.split.result c.split.ensures
