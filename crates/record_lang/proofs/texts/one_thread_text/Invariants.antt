use Rattle.std.proofs.Common.{◌≡◌, map, Some}
use Rattle.std.specs.List.{flat_map}
use Rattle.record_lang.specs.Outcomes.{record_outcome}
use Rattle.record_lang.specs.Tallies.{counts_in}
use Rattle.record_lang.specs.Texts.{counts_of, refused_line, result_line}
use Rattle.text_rows.specs.Writers.{IsReady, lines_written}
use Rattle.record_lang.proofs.texts.one_thread_text.Given as goal

abbrev pub invariant-records : goal.invariant-records
invariant-records l = record {
  results_ready : IsReady l.results;
  refusals_ready : IsReady l.refusals;
  results : lines_written l.results ≡ Some (flat_map result_line (map (record_outcome l.stages) l.yielded));
  refusals : lines_written l.refusals ≡ Some (flat_map refused_line (map (record_outcome l.stages) l.yielded));
  tally : counts_in l.tally ≡ counts_of (map (record_outcome l.stages) l.yielded);
}
