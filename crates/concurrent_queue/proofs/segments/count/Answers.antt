use Rattle.ho_model.specs.Entries.{entry}
use Rattle.ho_model.specs.declared.marks.CallMark.TheVariants as callmark
use Rattle.ho_model.specs.declared.marks.ReplyMark.TheVariants.{Counted}
use Rattle.concurrent_queue.proofs.Carrying.{ends_as}
use Rattle.concurrent_queue.proofs.segments.count.Goals as goal

pub returns-clause-told : goal.returns-clause-told
returns-clause-told g c = ends_as c.args.table.now c.args.pass.now c.count-answer.new.pass c.requires.1 c.count-answer.ensures.idle.1.window (entry c.args.pass.now.view.caller callmark.Count (Counted c.count-answer.result.0)) c.count-answer.result.1 c.count-answer.ensures.ends
