use Rattle.std.proofs.Common.{[]}
use Rattle.ho_model.specs.Entries.{entry}
use Rattle.ho_model.specs.declared.marks.CallMark.TheVariants.{Add}
use Rattle.ho_model.specs.declared.marks.ReplyMark.TheVariants.{Full}
use Rattle.bag_rule.proofs.table.BagTable.full_event.Given as goal

abbrev pub ghosts-event_quiet : goal.ghosts-event_quiet
ghosts-event_quiet g a = let v = a.seat.now.me.0 in record { list = v.caller; items = []; entry = entry v.caller (Add (g.T.Item.mark a.said.now.value)) Full }
