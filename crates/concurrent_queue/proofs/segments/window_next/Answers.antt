use Rattle.concurrent_queue.proofs.Carrying.{between_of, gives_as}
use Rattle.concurrent_queue.proofs.segments.window_next.Goals as goal

pub returns-clause-pass : goal.returns-clause-pass
returns-clause-pass c = let o = c.window_next.ensures.opened in between_of c.args.table.now c.window_next.new.pass c.window_next.ensures.of o.hand o.stage o.joint c.form-form.ensures.shape c.form-form.ensures.words

pub returns-clause-gives : goal.returns-clause-gives
returns-clause-gives c = gives_as c.args.pass.now c.args.window.now c.window_next.new.pass c.window_next.new.window c.window_next.result c.window_next.ensures.gives
