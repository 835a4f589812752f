use Rattle.bag_rule.proofs.table.BagTable.give.Given as goal

abbrev pub ghosts-give : goal.ghosts-give
ghosts-give g a = record { number = a.number }
