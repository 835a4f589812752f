use Rattle.std.proofs.Common.{rules}
use Rattle.turn_lock.proofs.Joining.{tells}
use Rattle.turn_lock.proofs.steps.tell.Goals as goal

pub load-requires : goal.load-requires
load-requires g c = (search rules, search rules, tells _ _ _ _ _ _ _ c.requires.free)
