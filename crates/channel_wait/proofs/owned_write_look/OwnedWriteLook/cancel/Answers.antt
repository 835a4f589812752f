use Rattle.ho_model.specs.declared.marks.CallMark.TheVariants.{BeginLookWrite}
use Rattle.channel_wait.proofs.Replies.{ends_look_write}
use Rattle.channel_wait.proofs.owned_write_look.OwnedWriteLook.cancel.Goals as goal

pub look_end-end-requires : goal.look_end-end-requires
look_end-end-requires g c = ends_look_write g.T.Item.mark c.cancel.result (c.cancel.ensures.end BeginLookWrite c.requires.1)
