use Rattle.ho_model.specs.Channel as channel
use Rattle.ho_model.specs.Written.{mark_of}
use Rattle.ho_model.specs.Tries.{kind_of}
use Rattle.ho_model.proofs.replays.channel.Channel.write_at_once.Goals as goal

pub returns : goal.returns
returns c =
    c.or.ensures (channel.written (kind_of c.args.kind) c.args.self.now (mark_of c.args.item)) c.args.self.now c.write.new.self
    c.in_ok-tried.ensures.tried
