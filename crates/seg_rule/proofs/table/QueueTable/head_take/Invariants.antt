use Rattle.std.proofs.Common.{false}
use Rattle.seg_rule.proofs.table.QueueTable.head_take.Given as goal

abbrev pub ghosts-head_take : goal.ghosts-head_take
ghosts-head_take a = record { place = a.place; position = a.position; length = a.slot; item = a.item; full = false }
