use Rattle.std.proofs.Common.{[]}
use Rattle.bag_rule.specs.Views.{no_entry}
use Rattle.bag_rule.proofs.table.BagTable.take_list.Given as goal

abbrev pub ghosts-list_take : goal.ghosts-list_take
ghosts-list_take g a = record { list = a.list; items = []; entry = no_entry }
