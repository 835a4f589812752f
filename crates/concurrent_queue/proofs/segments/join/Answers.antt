use Rattle.concurrent_queue.proofs.Carrying.{joins_as, join_kept}
use Rattle.concurrent_queue.proofs.segments.join.Goals as goal

pub returns-clause-pass : goal.returns-clause-pass
returns-clause-pass c = let of = c.requires.of.0 in join_kept c.args.pass.now c.args.other c.join.new.pass c.join.ensures of.0

pub returns-clause-joined : goal.returns-clause-joined
returns-clause-joined c = joins_as c.args.pass.now c.args.other c.join.new.pass c.join.ensures
