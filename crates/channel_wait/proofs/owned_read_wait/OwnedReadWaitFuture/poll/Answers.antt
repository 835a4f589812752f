use Rattle.std.proofs.Common.{inr}
use Rattle.ho_model.specs.declared.marks.CallMark.TheVariants.{BeginRead}
use Rattle.channel_wait.proofs.Replies.{ends_read}
use Rattle.channel_wait.proofs.owned_read_wait.OwnedReadWaitFuture.poll.Goals as goal

pub read_end-requires : goal.read_end-requires
read_end-requires g c = ends_read g.T.Item.mark c.in-Some.reply (inr (c.in-Some.ensures.answer BeginRead c.requires.1))
