use Rattle.seg_rule.proofs.table.QueueTable.look_empty.Given as goal

abbrev pub ghosts-see_empty : goal.ghosts-see_empty
ghosts-see_empty a = record { place = a.place; position = a.head; length = 0; item = 0; full = a.peek }
