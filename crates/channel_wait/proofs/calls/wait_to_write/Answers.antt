use Rattle.std.proofs.Common.{refl, sym, ap, subst, inl}
use Rattle.ho_model.specs.declared.marks.CallMark.TheVariants.{BeginLookWrite}
use Rattle.channel_laws.specs.Kinds.{AnswersBegin, CancelsBegin}
use Rattle.cancel_flag.specs.Seen.{Token}
use Rattle.wait_loop.specs.Own.{WaitsOut}
use Rattle.wait_loop.proofs.Own.{ends_later}
use Rattle.channel_wait.specs.Standing.{Awaits}
use Rattle.channel_wait.proofs.Replies.{ends_look_write}
use Rattle.channel_wait.proofs.calls.wait_to_write.Goals as goal

pub look_end-requires : goal.look_end-requires
look_end-requires g c =
    let begun = rw c.in-Waiting.is at c.in_ok-end.ensures.begun in
    ends_look_write g.T.Item.mark c.wait_out.result (c.wait_out.ensures.ended.end BeginLookWrite begun.1)

pub returns-in-Ended-clause-ended : goal.returns-in-Ended-clause-ended
returns-in-Ended-clause-ended g c = inl (rw c.in-Ended.is at c.in_ok-end.ensures.begun, refl)

pub returns-in-Waiting-clause-word : goal.returns-in-Waiting-clause-word
returns-in-Waiting-clause-word g c = ap (λ (t : Token). t.word) c.wait_out.ensures.ended.looked.looked

pub returns-in-Waiting-clause-ended : goal.returns-in-Waiting-clause-ended
returns-in-Waiting-clause-ended g c =
    let begun = rw c.in-Waiting.is at c.in_ok-end.ensures.begun in
    subst (λ m. WaitsOut g.T.Item.priority_of BeginLookWrite c.args.writer.now c.wait_out.new.side m c.args.token.now c.wait_out.new.token)
    (sym c.look_end.ensures)
    (ends_later Awaits AnswersBegin CancelsBegin g.T.Item.priority_of BeginLookWrite _ _ c.in_ok-end.ensures.pass _ _ c.in-Waiting.number _ _ begun.0 c.wait_out.ensures.ended)
