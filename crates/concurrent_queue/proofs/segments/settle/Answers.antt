use Rattle.concurrent_queue.proofs.Carrying.{idle_between}
use Rattle.concurrent_queue.proofs.segments.settle.Goals as goal

pub returns : goal.returns
returns c = idle_between c.args.table.now c.args.pass.now c.requires c.form-form.ensures.shape c.form-form.ensures.words
