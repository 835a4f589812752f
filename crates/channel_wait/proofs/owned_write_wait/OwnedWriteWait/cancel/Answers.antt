use Rattle.std.proofs.Common.{sym, subst, ◌⊎◌}
use Rattle.ho_model.specs.declared.marks.CallMark.TheVariants.{BeginWrite}
use Rattle.channel_core.specs.Marks.{reply_mark}
use Rattle.channel_laws.specs.Kinds.{AnswersBegin, CancelsBegin}
use Rattle.channel_wait.proofs.Replies.{ends_write, hands_back}
use Rattle.channel_wait.proofs.owned_write_wait.OwnedWriteWait.cancel.Goals as goal

pub write_end-end-requires : goal.write_end-end-requires
write_end-end-requires g c = ends_write g.T.Item.mark c.requires.0 c.cancel.result (c.cancel.ensures.end (BeginWrite c.requires.0) c.requires.1.1)

pub returns-clause-handed_back : goal.returns-clause-handed_back
returns-clause-handed_back g c x w =
    hands_back g.T.Item.mark x c.write_end-end.result
    (subst (λ r. CancelsBegin (BeginWrite x) (reply_mark g.T.Item.mark r) ⊎ AnswersBegin (BeginWrite x) (reply_mark g.T.Item.mark r)) (sym c.write_end-end.ensures) (c.cancel.ensures.end (BeginWrite x) w.1))
