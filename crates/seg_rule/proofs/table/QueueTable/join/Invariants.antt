use Rattle.seg_rule.proofs.table.QueueTable.join.Given as goal

abbrev pub ghosts-take_in : goal.ghosts-take_in
ghosts-take_in a = record { last = a.other.me.0 }
