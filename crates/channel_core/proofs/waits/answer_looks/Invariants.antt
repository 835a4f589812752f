use Rattle.std.proofs.Common.{◌≡◌, ◌++◌, map, take, drop, true}
use Rattle.ho_model.specs.Channel as channel
use Rattle.ho_model.specs.declared.marks.ReplyMark.TheVariants as replymark
use Rattle.channel_core.specs.Marks.{kind_of, waits_mark}
use Rattle.channel_core.proofs.waits.answer_looks.Given as goal

abbrev pub invariant-loop-w : goal.invariant-loop-w
invariant-loop-w g l =
    let before = waits_mark g.T.Marked.mark l.initial.waits in
    waits_mark g.T.Marked.mark l.waits ≡ map (channel.answer_if (kind_of l.want) (replymark.Ready true)) (take l.w-index before) ++ drop l.w-index before
