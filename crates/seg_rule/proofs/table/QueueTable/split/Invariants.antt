use Rattle.seg_rule.proofs.table.QueueTable.split.Given as goal

abbrev pub ghosts-give : goal.ghosts-give
ghosts-give a = record { number = a.number }
