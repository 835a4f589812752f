use Rattle.std.proofs.Common.{refl, ap}
use Rattle.seg_rule.specs.declared.view.Notes.{Notes}
use Rattle.queue_tries.specs.Tails.{tail_at}
use Rattle.queue_tries.proofs.tails.see_room.Goals as goal

pub load-head-requires-clause-may : goal.load-head-requires-clause-may
load-head-requires-clause-may c = (c.requires.may, (tail_at c.args.place c.args.tail, ap (λ (o : Notes). o.tail) c.requires.notes, refl))
