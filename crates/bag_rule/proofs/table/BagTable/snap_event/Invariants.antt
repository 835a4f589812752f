use Rattle.std.proofs.Common.{[]}
use Rattle.ho_model.specs.Entries.{entry}
use Rattle.ho_model.specs.declared.marks.CallMark.TheVariants.{Snap}
use Rattle.ho_model.specs.declared.marks.ReplyMark.TheVariants.{Numbers}
use Rattle.bag_rule.proofs.table.BagTable.snap_event.Given as goal

abbrev pub ghosts-event_quiet : goal.ghosts-event_quiet
ghosts-event_quiet g a = let v = a.seat.now.me.0 in record { list = v.caller; items = []; entry = entry v.caller Snap (Numbers a.said.now) }
