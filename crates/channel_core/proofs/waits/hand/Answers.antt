use Rattle.channel_core.specs.declared.waits.Settled.TheVariants as settled
use Rattle.channel_core.proofs.Answering.{answered_there}
use Rattle.channel_core.proofs.waits.hand.Goals as goal

pub returns : goal.returns
returns g c = answered_there g.T.Marked.mark c.args.waits.now c.args.place c.index-waits-place.result (settled.Item c.args.item) c.requires
