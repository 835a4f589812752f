use Rattle.std.proofs.Common.{◌∙◌, sym}
use Rattle.ho_model.specs.Channel as channel
use Rattle.channel_core.specs.Marks.{waiter_mark}
use Rattle.channel_core.proofs.Places.{position_map}
use Rattle.channel_core.proofs.waits.find.Goals as goal

pub returns : goal.returns
returns g c =
    c.find_here.ensures ∙ sym (position_map (waiter_mark g.T.Marked.mark) (channel.is_wait c.args.caller c.args.number) c.args.waits.now)
