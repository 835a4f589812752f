use Rattle.bag_rule.proofs.table.BagTable.take_in.Given as goal

abbrev pub ghosts-take_in : goal.ghosts-take_in
ghosts-take_in g a = record { last = a.other.me.0 }
