use Rattle.std.proofs.Common.{[], ◌∷◌}
use Rattle.ho_model.specs.Entries.{entry}
use Rattle.ho_model.specs.declared.marks.CallMark.TheVariants as callmark
use Rattle.queue_tries.specs.Tries.{enqueue_mark}
use Rattle.concurrent_queue.proofs.Carrying.{ends_as}
use Rattle.concurrent_queue.proofs.segments.enqueue.Goals as goal

pub returns-clause-told : goal.returns-clause-told
returns-clause-told g c = ends_as c.args.table.now c.args.pass.now c.enqueue-answer.new.pass c.requires.1 c.enqueue-answer.ensures.idle.1.window (entry c.args.pass.now.view.caller (callmark.Enq (c.args.value ∷ [])) (enqueue_mark c.enqueue-answer.result.0)) c.enqueue-answer.result.1 c.enqueue-answer.ensures.ends
