use Rattle.std.proofs.Common.{◌≡◌, ◌∷◌, [], take, codes, decimal}
use Rattle.csv.specs.Records.{fields_of, partial_of}
use Rattle.record_lang.proofs.report_rows.put_result.Given as goal

abbrev pub invariant-loop-field : goal.invariant-loop-field
invariant-loop-field l = record {
  fields : fields_of l.row ≡ codes "result" ∷ decimal l.fn.shown.number ∷ take l.field-index l.fn.shown.fields;
  partial : partial_of l.row ≡ [];
}
