use Rattle.ho_model.specs.declared.marks.CallMark.TheVariants.{BeginRead}
use Rattle.channel_wait.proofs.Replies.{ends_read}
use Rattle.channel_wait.proofs.owned_read_wait.OwnedReadWait.cancel.Goals as goal

pub read_end-end-requires : goal.read_end-end-requires
read_end-end-requires g c = ends_read g.T.Item.mark c.cancel.result (c.cancel.ensures.end BeginRead c.requires.1)
