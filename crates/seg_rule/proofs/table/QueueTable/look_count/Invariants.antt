use Rattle.std.proofs.Common.{false}
use Rattle.seg_rule.proofs.table.QueueTable.look_count.Given as goal

abbrev pub ghosts-see_count : goal.ghosts-see_count
ghosts-see_count a = record { place = 0; position = a.tail; length = 0; item = 0; full = false }
