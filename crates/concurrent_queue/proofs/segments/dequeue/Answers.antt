use Rattle.ho_model.specs.Entries.{entry}
use Rattle.ho_model.specs.declared.marks.CallMark.TheVariants as callmark
use Rattle.queue_tries.specs.Tries.{dequeue_mark}
use Rattle.concurrent_queue.proofs.Carrying.{ends_as}
use Rattle.concurrent_queue.proofs.segments.dequeue.Goals as goal

pub returns-clause-told : goal.returns-clause-told
returns-clause-told g c = ends_as c.args.table.now c.args.pass.now c.dequeue-answer.new.pass c.requires.1 c.dequeue-answer.ensures.idle.1.window (entry c.args.pass.now.view.caller callmark.Deq (dequeue_mark c.dequeue-answer.result.0)) c.dequeue-answer.result.1 c.dequeue-answer.ensures.ends
