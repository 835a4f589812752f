use Rattle.std.proofs.Common.{rules, sym, subst, ◌⊎◌, inr}
use Rattle.ho_model.specs.declared.marks.CallMark.TheVariants.{BeginWrite}
use Rattle.channel_core.specs.Marks.{reply_mark}
use Rattle.channel_laws.specs.Kinds.{AnswersBegin, CancelsBegin}
use Rattle.channel_wait.proofs.Replies.{ends_write, hands_back}
use Rattle.channel_wait.proofs.owned_write_wait.OwnedWriteWaitFuture.poll.Goals as goal

pub write_end-requires : goal.write_end-requires
write_end-requires g c = ends_write g.T.Item.mark c.requires.0 c.in-Some.reply (inr (c.in-Some.ensures.answer (BeginWrite c.requires.0) c.requires.1.1))

pub returns-in_default-clause-again : goal.returns-in_default-clause-again
returns-in_default-clause-again g c =
    let stands = c.in_default.ensures.stays_open (BeginWrite c.requires.0) c.requires.1.1 in
    let unended = c.requires.1.0 in
    search (rules, stands, unended)

pub returns-clause-handed_back : goal.returns-clause-handed_back
returns-clause-handed_back g c x w =
    hands_back g.T.Item.mark x c.write_end.result
    (subst (λ r. CancelsBegin (BeginWrite x) (reply_mark g.T.Item.mark r) ⊎ AnswersBegin (BeginWrite x) (reply_mark g.T.Item.mark r)) (sym c.write_end.ensures) (inr (c.in-Some.ensures.answer (BeginWrite x) w.1)))
