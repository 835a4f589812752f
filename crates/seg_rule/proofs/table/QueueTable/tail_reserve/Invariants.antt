use Rattle.std.proofs.Common.{false}
use Rattle.seg_rule.proofs.table.QueueTable.tail_reserve.Given as goal

abbrev pub ghosts-tail_reserve : goal.ghosts-tail_reserve
ghosts-tail_reserve a = record { place = a.place; position = a.position; length = a.slot; item = a.item; full = false }
