use Rattle.channel_core.specs.Marks.{waiter_mark}
use Rattle.channel_core.proofs.Places.{map-remove}
use Rattle.channel_core.proofs.waits.withdraw.Goals as goal

pub returns-clause-waits : goal.returns-clause-waits
returns-clause-waits g c =
    rw c.remove-waiter.ensures.items (map-remove (waiter_mark g.T.Marked.mark) c.args.waits.now.items c.args.place)
