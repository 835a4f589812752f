use Rattle.std.proofs.Common.{ap}
use Rattle.seg_rule.specs.Passes.{QueueView}
use Rattle.queue_tries.proofs.Snapping.{looks_all}
use Rattle.queue_tries.proofs.snaps.look_all.Goals as goal

pub returns-clause-looks : goal.returns-clause-looks
returns-clause-looks c =
    looks_all c.args.current c.args.tail c.args.first c.head_look-head.result c.args.pass.now.view c.head_look-head.new.pass.view c.tail_reopen.new.pass.view c.turn_leave.new.pass.view c.requires.at c.requires.counted c.head_look-head.ensures.taken.0 c.head_look-head.ensures.taken.1
    (ap (λ (z : QueueView). z.view) c.tail_reopen.ensures) (ap (λ (z : QueueView). z.view) c.turn_leave.ensures) c.args.table.now.form.room c.args.table.now.form.first_len c.requires.of.1
