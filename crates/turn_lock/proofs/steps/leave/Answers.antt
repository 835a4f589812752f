use Rattle.std.proofs.Common.{rules}
use Rattle.turn_lock.proofs.Holding.{leaves}
use Rattle.turn_lock.proofs.steps.leave.Goals as goal

pub fetch_add-requires : goal.fetch_add-requires
fetch_add-requires g c = let m = c.requires.machine in (search rules, search rules, leaves _ _ _ _ _ _ _ _ _ _ c.requires.turn m.1 m.2)
