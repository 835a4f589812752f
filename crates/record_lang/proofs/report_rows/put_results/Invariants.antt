use Rattle.std.proofs.Common.{◌≡◌, ◌++◌, ℕ, List, Some, take}
use Rattle.std.specs.List.{flat_map}
use Rattle.text_rows.specs.Writers.{IsReady, lines_written}
use Rattle.record_lang.specs.Texts.{result_line}
use Rattle.record_lang.proofs.report_rows.put_results.Given as goal

abbrev pub invariant-loop-outcome : goal.invariant-loop-outcome
invariant-loop-outcome l = record {
  ready : IsReady l.lines;
  lines : (text : List ℕ) → lines_written l.fn.lines ≡ Some text → lines_written l.lines ≡ Some (text ++ flat_map result_line (take l.outcome-index l.fn.outcomes));
}
