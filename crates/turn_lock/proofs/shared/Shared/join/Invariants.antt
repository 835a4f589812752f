use Rattle.turn_lock.proofs.shared.Shared.join.Given as goal

abbrev pub ghosts-take_in : goal.ghosts-take_in
ghosts-take_in g a = record { last = a.other.me.0 }
