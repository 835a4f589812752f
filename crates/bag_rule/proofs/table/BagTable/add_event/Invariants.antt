use Rattle.std.proofs.Common.{[], ◌∷◌, ◌++◌}
use Rattle.ho_model.specs.Entries.{entry}
use Rattle.ho_model.specs.declared.marks.CallMark.TheVariants.{Add}
use Rattle.ho_model.specs.declared.marks.ReplyMark.TheVariants.{Done}
use Rattle.bag_rule.specs.Views.{kept_at}
use Rattle.bag_rule.proofs.table.BagTable.add_event.Given as goal

abbrev pub ghosts-event_change : goal.ghosts-event_change
ghosts-event_change g a = let x = g.T.Item.mark a.said.now.value in record { list = a.list; items = kept_at a.seat.now.me.0 a.list ++ x ∷ []; entry = entry a.list (Add x) Done }
