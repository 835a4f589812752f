use Rattle.ho_model.specs.Channel as channel
use Rattle.ho_model.specs.Tries.{kind_of}
use Rattle.ho_model.proofs.replays.channel.Channel.read_at_once.Goals as goal

pub returns : goal.returns
returns c = c.or.ensures (channel.taken (kind_of c.args.kind) c.args.self.now) c.args.self.now c.read.new.self c.in_ok-tried.ensures.tried
