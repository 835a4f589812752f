use Rattle.std.proofs.Common.{◌≡◌, ◌≤◌, ◌-◌, None, length}
use Rattle.text_rows.specs.Readers.{HasRead}
use Rattle.record_lang.specs.Rows.{fields_in, numbered_from, row_fault}
use Rattle.record_lang.proofs.rows.read_records.Given as goal

abbrev pub invariant-rows : goal.invariant-rows
invariant-rows l = record {
  read : HasRead l.fn.bytes (fields_in l.records) l.reader;
  numbered : l.records ≡ numbered_from 0 (fields_in l.records);
  fine : row_fault (fields_in l.records) ≡ None;
  few : length l.records ≤ 200000;
}

abbrev pub decreases-rows : goal.decreases-rows
decreases-rows l = 200000 - length l.records
