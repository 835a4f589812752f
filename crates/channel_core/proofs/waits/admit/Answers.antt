use Rattle.channel_core.proofs.Answering.{answered_there}
use Rattle.channel_core.specs.declared.waits.Settled.TheVariants as settled
use Rattle.channel_core.proofs.waits.admit.Goals as goal

pub returns-clause-waits : goal.returns-clause-waits
returns-clause-waits g c =
    rw c.replace.ensures.after
    (answered_there g.T.Marked.mark c.args.waits.now c.args.place c.index-waits-place.result settled.Done c.requires.place)
