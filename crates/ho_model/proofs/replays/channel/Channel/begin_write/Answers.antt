use Rattle.std.proofs.Common.{sym}
use Rattle.ho_model.specs.Channel as channel
use Rattle.ho_model.specs.Written.{mark_of}
use Rattle.ho_model.specs.Tries.{kind_of}
use Rattle.ho_model.proofs.replays.channel.Channel.begin_write.Goals as goal

pub returns : goal.returns
returns c =
    c.begin.ensures c.args.self.now (channel.written (kind_of c.args.kind) c.args.self.now (mark_of c.args.item)) (sym c.write.ensures.begins)
    c.in_ok-tried.ensures.tried
