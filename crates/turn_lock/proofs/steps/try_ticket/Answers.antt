use Rattle.std.proofs.Common.{rules}
use Rattle.turn_lock.proofs.Tickets.{tries}
use Rattle.turn_lock.proofs.steps.try_ticket.Goals as goal

pub compare_exchange-requires : goal.compare_exchange-requires
compare_exchange-requires g c = (search rules, search rules, tries _ _ _ _ _ _ _ _ c.requires.looked.0 c.requires.active c.requires.spare)
