use Rattle.std.proofs.Common.{false}
use Rattle.seg_rule.proofs.table.QueueTable.observe_add.Given as goal

abbrev pub ghosts-observe_add : goal.ghosts-observe_add
ghosts-observe_add a = record { place = a.place; position = 0; length = 0; item = 0; full = false }
