use Rattle.std.proofs.Common.{[]}
use Rattle.bag_rule.specs.Views.{no_entry}
use Rattle.bag_rule.proofs.table.BagTable.leave_list.Given as goal

abbrev pub ghosts-list_leave : goal.ghosts-list_leave
ghosts-list_leave g a = record { list = a.list; items = []; entry = no_entry }
