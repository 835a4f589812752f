use Rattle.std.proofs.Common.{sym}
use Rattle.ho_model.specs.Channel as channel
use Rattle.ho_model.specs.Tries.{kind_of}
use Rattle.ho_model.proofs.replays.channel.Channel.begin_read.Goals as goal

pub returns : goal.returns
returns c = c.begin.ensures c.args.self.now (channel.taken (kind_of c.args.kind) c.args.self.now) (sym c.read.ensures.begins) c.in_ok-tried.ensures.tried
