use Rattle.ho_model.specs.declared.marks.CallMark.TheVariants.{BeginLookRead}
use Rattle.channel_wait.proofs.Replies.{ends_look_read}
use Rattle.channel_wait.proofs.owned_read_look.OwnedReadLook.cancel.Goals as goal

pub look_end-end-requires : goal.look_end-end-requires
look_end-end-requires g c = ends_look_read g.T.Item.mark c.cancel.result (c.cancel.ensures.end BeginLookRead c.requires.1)
