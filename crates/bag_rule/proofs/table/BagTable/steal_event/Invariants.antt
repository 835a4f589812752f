use Rattle.std.proofs.Common.{drop}
use Rattle.ho_model.specs.Entries.{entry}
use Rattle.ho_model.specs.declared.marks.CallMark.TheVariants.{Take}
use Rattle.ho_model.specs.declared.marks.ReplyMark.TheVariants.{ItemFrom}
use Rattle.bag_rule.specs.Views.{kept_at}
use Rattle.bag_rule.proofs.table.BagTable.steal_event.Given as goal

abbrev pub ghosts-event_change : goal.ghosts-event_change
ghosts-event_change g a = let v = a.seat.now.me.0 in record { list = a.list; items = drop 1 (kept_at v a.list); entry = entry v.caller Take (ItemFrom (g.T.Item.mark a.said.now.value) a.list) }
