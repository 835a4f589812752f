use Rattle.std.proofs.Common.{◌≡◌, take}
use Rattle.csv.specs.Records.{fields_of}
use Rattle.record_lang.proofs.rows.record_of.Given as goal

abbrev pub invariant-loop-i : goal.invariant-loop-i
invariant-loop-i l = record {
  number : l.made.number ≡ l.fn.number;
  fields : l.made.fields ≡ take l.i (fields_of l.fn.row);
}
