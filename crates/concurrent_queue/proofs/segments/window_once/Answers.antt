use Rattle.concurrent_queue.proofs.Carrying.{windows_as, windows_between}
use Rattle.concurrent_queue.proofs.segments.window_once.Goals as goal

pub returns-clause-pass : goal.returns-clause-pass
returns-clause-pass c = windows_between c.args.table.now c.args.pass.now c.window_once.new.pass c.window_once.result c.recall.ensures c.window_once.ensures.of c.window_once.ensures.told c.form-form.ensures.shape c.form-form.ensures.words

pub returns-clause-told : goal.returns-clause-told
returns-clause-told c = windows_as c.args.table.now c.args.pass.now c.window_once.new.pass c.requires.1 c.window_once.result c.window_once.ensures.told
