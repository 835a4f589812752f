use Rattle.std.proofs.Common.{◌-◌, length, take}
use Rattle.ho_model.specs.Entries.{entry}
use Rattle.ho_model.specs.declared.marks.CallMark.TheVariants.{Take}
use Rattle.ho_model.specs.declared.marks.ReplyMark.TheVariants.{ItemFrom}
use Rattle.bag_rule.specs.Views.{kept_at}
use Rattle.bag_rule.proofs.table.BagTable.take_event.Given as goal

abbrev pub ghosts-event_change : goal.ghosts-event_change
ghosts-event_change g a = let items = kept_at a.seat.now.me.0 a.list in record { list = a.list; items = take (length items - 1) items; entry = entry a.list Take (ItemFrom (g.T.Item.mark a.said.now.value) a.list) }
