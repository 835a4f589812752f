use Rattle.std.proofs.Common.{false}
use Rattle.seg_rule.proofs.table.QueueTable.look_front.Given as goal

abbrev pub ghosts-see_front : goal.ghosts-see_front
ghosts-see_front a = record { place = 0; position = a.head; length = 0; item = a.item; full = false }
