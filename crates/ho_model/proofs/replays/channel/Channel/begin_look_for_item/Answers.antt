use Rattle.std.proofs.Common.{refl}
use Rattle.ho_model.specs.Channel as channel
use Rattle.ho_model.proofs.replays.channel.Channel.begin_look_for_item.Goals as goal

pub returns : goal.returns
returns c = c.begin.ensures c.args.self.now (channel.looked_read c.args.self.now) refl c.look_for_item-tried.ensures
