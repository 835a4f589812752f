use Rattle.std.proofs.Common.{false}
use Rattle.seg_rule.proofs.table.QueueTable.put_length.Given as goal

abbrev pub ghosts-length_store : goal.ghosts-length_store
ghosts-length_store a = record { place = 0; position = 0; length = a.length; item = 0; full = false }
