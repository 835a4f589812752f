use Rattle.std.proofs.Common.{◌≡◌, Some, take}
use Rattle.text_rows.specs.Writers.{IsReady, lines_written}
use Rattle.drive_kit.specs.Histories.{text_of}
use Rattle.drive_kit.proofs.texts.history_text.Given as goal

abbrev pub invariant-loop-number : goal.invariant-loop-number
invariant-loop-number l = record {
  ready : IsReady l.lines;
  written : lines_written l.lines ≡ Some (text_of (take l.number l.entries));
}
