use Rattle.std.proofs.Common.{◌≤◌, ◌-◌, [], List, length}
use Rattle.ho_model.specs.declared.histories.Entry.{Entry}
use Rattle.drive_kit.specs.Calls.{kind_of}
use Rattle.drive_kit.specs.Histories.{with_entry}
use Rattle.drive_kit.proofs.ReadingLemmas.{HasKept}
use Rattle.drive_kit.proofs.history_rows.parse_history.Given as goal

abbrev pub invariant-rows : goal.invariant-rows
invariant-rows l = record {
  kept : HasKept (List Entry) (with_entry (kind_of l.fn.object)) [] [] l.fn.bytes l.reader l.entries.items;
  few : length l.entries.items ≤ 20000;
}

abbrev pub decreases-rows : goal.decreases-rows
decreases-rows l = 20000 - length l.entries.items
