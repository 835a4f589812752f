use Rattle.std.proofs.Common.{rules}
use Rattle.turn_lock.proofs.Holding.{reaches}
use Rattle.turn_lock.proofs.steps.reach.Goals as goal

pub load-requires : goal.load-requires
load-requires g c = (search rules, search rules, reaches _ _ _ _ _ _ _ _ c.requires.turn)
