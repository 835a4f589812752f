use Rattle.std.proofs.Common.{false}
use Rattle.seg_rule.proofs.table.QueueTable.tail_close.Given as goal

abbrev pub ghosts-tail_close : goal.ghosts-tail_close
ghosts-tail_close a = record { place = a.place; position = a.position; length = 0; item = 0; full = false }
