use Rattle.concurrent_queue.proofs.Carrying.{ready_idle}
use Rattle.concurrent_queue.proofs.segments.recall.Goals as goal

pub returns : goal.returns
returns c = ready_idle c.args.table.now c.args.pass.now c.requires c.form-form.ensures.shape c.form-form.ensures.words
