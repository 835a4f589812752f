use Rattle.std.proofs.Common.{arith, true}
use Rattle.ho_model.specs.Channel as channel
use Rattle.ho_model.specs.declared.marks.ReplyMark.TheVariants as replymark
use Rattle.channel_core.specs.Marks.{kind_of, waiter_mark}
use Rattle.channel_core.proofs.Places.{mapped_more}
use Rattle.channel_core.proofs.waits.answer_looks.Goals as goal

pub loop-w-preserved : goal.loop-w-preserved
loop-w-preserved g c =
    let mark = waiter_mark g.T.Marked.mark in
    let change = channel.answer_if (kind_of c.args.want) (replymark.Ready true) in
    mapped_more mark change c.args.waits.now c.loop-w.waits c.loop-w.w-index c.answer_look.new.self c.w-item.result
    (omega arith) (omega arith) c.loop-w.invariant
    c.answer_look.ensures
