use Rattle.std.proofs.Common.{inr}
use Rattle.ho_model.specs.declared.marks.CallMark.TheVariants.{BeginLookRead}
use Rattle.channel_wait.proofs.Replies.{ends_look_read}
use Rattle.channel_wait.proofs.owned_read_look.OwnedReadLookFuture.poll.Goals as goal

pub look_end-requires : goal.look_end-requires
look_end-requires g c = ends_look_read g.T.Item.mark c.in-Some.reply (inr (c.in-Some.ensures.answer BeginLookRead c.requires.1))
