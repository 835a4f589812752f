use Rattle.concurrent_queue.proofs.Carrying.{ready_inside}
use Rattle.concurrent_queue.proofs.segments.recall_inside.Goals as goal

pub returns : goal.returns
returns c = ready_inside c.args.table.now c.args.pass.now c.requires c.form-form.ensures.shape c.form-form.ensures.words
