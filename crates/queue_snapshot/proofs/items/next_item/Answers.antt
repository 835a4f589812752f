use Rattle.queue_snapshot.proofs.Following.{reads_none, reads_on, reads_end, inside_on}
use Rattle.queue_snapshot.proofs.items.next_item.Goals as goal

pub loop-init : goal.loop-init
loop-init g c = (c.requires.of, c.requires.opened, reads_none c.args.pass.now c.args.window.now)
