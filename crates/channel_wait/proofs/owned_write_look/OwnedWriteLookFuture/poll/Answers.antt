use Rattle.std.proofs.Common.{inr}
use Rattle.ho_model.specs.declared.marks.CallMark.TheVariants.{BeginLookWrite}
use Rattle.channel_wait.proofs.Replies.{ends_look_write}
use Rattle.channel_wait.proofs.owned_write_look.OwnedWriteLookFuture.poll.Goals as goal

pub look_end-requires : goal.look_end-requires
look_end-requires g c = ends_look_write g.T.Item.mark c.in-Some.reply (inr (c.in-Some.ensures.answer BeginLookWrite c.requires.1))
