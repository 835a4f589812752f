use Rattle.std.proofs.Common.{sym, subst, inl, inr, ◌⊎◌}
use Rattle.ho_model.specs.declared.marks.CallMark.TheVariants.{BeginWrite}
use Rattle.channel_core.specs.Marks.{reply_mark}
use Rattle.channel_laws.specs.Kinds.{AnswersBegin, CancelsBegin}
use Rattle.wait_loop.specs.Own.{PollsOut}
use Rattle.wait_loop.proofs.Own.{polls_later}
use Rattle.channel_wait.specs.Standing.{Awaits}
use Rattle.channel_wait.proofs.Replies.{ends_write, write_answers, hands_back}
use Rattle.channel_wait.proofs.calls.write_without_token.Goals as goal

pub write_end-requires : goal.write_end-requires
write_end-requires g c =
    let begun = rw c.in-Waiting.is at c.in_ok-end.ensures.begun in
    let x = g.T.Item.mark c.args.item in
    ends_write g.T.Item.mark x c.wait_out_without_token.result (inr (c.wait_out_without_token.ensures.answered.answer (BeginWrite x) begun.1))

pub returns-in-Ended-clause-ended : goal.returns-in-Ended-clause-ended
returns-in-Ended-clause-ended g c = inl (rw c.in-Ended.is at c.in_ok-end.ensures.begun)

pub returns-in-Waiting-clause-ended : goal.returns-in-Waiting-clause-ended
returns-in-Waiting-clause-ended g c =
    let begun = rw c.in-Waiting.is at c.in_ok-end.ensures.begun in
    let begin = BeginWrite (g.T.Item.mark c.args.item) in
    subst (λ r. PollsOut g.T.Item.priority_of begin c.args.writer.now c.wait_out_without_token.new.side (reply_mark g.T.Item.mark r))
    (sym c.write_end.ensures)
    (polls_later Awaits AnswersBegin CancelsBegin g.T.Item.priority_of begin _ _ c.in_ok-end.ensures.pass _ _ c.in-Waiting.number begun.0 c.wait_out_without_token.ensures.answered)

pub returns-in-Waiting-clause-answered : goal.returns-in-Waiting-clause-answered
returns-in-Waiting-clause-answered g c =
    let begun = rw c.in-Waiting.is at c.in_ok-end.ensures.begun in
    let begin = BeginWrite (g.T.Item.mark c.args.item) in
    write_answers g.T.Item.mark (g.T.Item.mark c.args.item) c.write_end.result
    (subst (λ r. AnswersBegin begin (reply_mark g.T.Item.mark r)) (sym c.write_end.ensures) (c.wait_out_without_token.ensures.answered.answer begin begun.1))

pub returns-in-Waiting-clause-handed_back : goal.returns-in-Waiting-clause-handed_back
returns-in-Waiting-clause-handed_back g c =
    let begun = rw c.in-Waiting.is at c.in_ok-end.ensures.begun in
    let begin = BeginWrite (g.T.Item.mark c.args.item) in
    hands_back g.T.Item.mark (g.T.Item.mark c.args.item) c.write_end.result
    (subst (λ r. CancelsBegin begin (reply_mark g.T.Item.mark r) ⊎ AnswersBegin begin (reply_mark g.T.Item.mark r)) (sym c.write_end.ensures) (inr (c.wait_out_without_token.ensures.answered.answer begin begun.1)))
