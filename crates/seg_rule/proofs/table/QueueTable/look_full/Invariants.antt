use Rattle.std.proofs.Common.{false}
use Rattle.seg_rule.proofs.table.QueueTable.look_full.Given as goal

abbrev pub ghosts-see_full : goal.ghosts-see_full
ghosts-see_full a = record { place = 0; position = a.tail; length = a.room; item = a.item; full = false }
