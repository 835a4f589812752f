use Rattle.std.proofs.Common.{sym, subst, inl, inr}
use Rattle.ho_model.specs.declared.marks.CallMark.TheVariants.{BeginRead}
use Rattle.channel_core.specs.Marks.{reply_mark}
use Rattle.channel_laws.specs.Kinds.{AnswersBegin, CancelsBegin}
use Rattle.wait_loop.specs.Own.{PollsOut}
use Rattle.wait_loop.proofs.Own.{polls_later}
use Rattle.channel_wait.specs.Standing.{Awaits}
use Rattle.channel_wait.proofs.Replies.{ends_read, read_answers}
use Rattle.channel_wait.proofs.calls.read_without_token.Goals as goal

pub read_end-requires : goal.read_end-requires
read_end-requires g c =
    let begun = rw c.in-Waiting.is at c.in_ok-end.ensures.begun in
    ends_read g.T.Item.mark c.wait_out_without_token.result (inr (c.wait_out_without_token.ensures.answered.answer BeginRead begun.1))

pub returns-in-Ended-clause-ended : goal.returns-in-Ended-clause-ended
returns-in-Ended-clause-ended g c = inl (rw c.in-Ended.is at c.in_ok-end.ensures.begun)

pub returns-in-Waiting-clause-ended : goal.returns-in-Waiting-clause-ended
returns-in-Waiting-clause-ended g c =
    let begun = rw c.in-Waiting.is at c.in_ok-end.ensures.begun in
    subst (λ r. PollsOut g.T.Item.priority_of BeginRead c.args.reader.now c.wait_out_without_token.new.side (reply_mark g.T.Item.mark r))
    (sym c.read_end.ensures)
    (polls_later Awaits AnswersBegin CancelsBegin g.T.Item.priority_of BeginRead _ _ c.in_ok-end.ensures.pass _ _ c.in-Waiting.number begun.0 c.wait_out_without_token.ensures.answered)

pub returns-in-Waiting-clause-answered : goal.returns-in-Waiting-clause-answered
returns-in-Waiting-clause-answered g c =
    let begun = rw c.in-Waiting.is at c.in_ok-end.ensures.begun in
    read_answers g.T.Item.mark c.read_end.result
    (subst (λ r. AnswersBegin BeginRead (reply_mark g.T.Item.mark r)) (sym c.read_end.ensures) (c.wait_out_without_token.ensures.answered.answer BeginRead begun.1))
