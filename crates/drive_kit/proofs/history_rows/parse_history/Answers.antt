use Rattle.std.proofs.Common.{◌∙◌, [], List, ap, arith}
use Rattle.csv.specs.Records.{fields_of}
use Rattle.ho_model.specs.declared.histories.Entry.{Entry}
use Rattle.drive_kit.specs.Calls.{kind_of}
use Rattle.drive_kit.specs.Causes.{read_from}
use Rattle.drive_kit.specs.Histories.{history_in, with_entry}
use Rattle.drive_kit.proofs.HistoryLemmas.{entry_more, row_refused}
use Rattle.drive_kit.proofs.ReadingLemmas.{has_kept_more, has_kept_none}
use Rattle.drive_kit.proofs.ScriptLemmas.{passed_on}
use Rattle.drive_kit.proofs.history_rows.parse_history.Goals as goal

pub rows-init : goal.rows-init
rows-init c = rw c.new-entries.ensures.items (record { kept = has_kept_none (List Entry) (with_entry (kind_of c.args.object.now)) [] [] c.args.bytes.now c.new_reader-reader.result c.new_reader-reader.ensures; few = omega arith })

pub rows-smaller : goal.rows-smaller
rows-smaller c =
    let more = entry_more (kind_of c.args.object.now) c.rows.entries.items c.take_entry.new.entries.items (fields_of c.next_row.new.row) c.in_ok-take_entry.ensures in
    omega (arith, more, c.rows.invariant.few)

pub rows-preserved : goal.rows-preserved
rows-preserved c =
    let kept = c.rows.invariant.kept in
    let read = rw c.if-branch.true at (c.in_ok-next_row.ensures c.args.bytes.now kept.rows kept.read) in
    let more = entry_more (kind_of c.args.object.now) c.rows.entries.items c.take_entry.new.entries.items (fields_of c.next_row.new.row) c.in_ok-take_entry.ensures in
    record {
      kept = has_kept_more (List Entry) (with_entry (kind_of c.args.object.now)) [] [] c.args.bytes.now c.rows.reader c.next_row.new.reader c.rows.entries.items c.take_entry.new.entries.items (fields_of c.next_row.new.row) kept read c.in_ok-take_entry.ensures;
      few = omega (arith, more, c.rows.invariant.few);
    }

pub returns-in_err-take_entry : goal.returns-in_err-take_entry
returns-in_err-take_entry c =
    let kept = c.rows.invariant.kept in
    let read = rw c.if-branch.true at (c.in_ok-next_row.ensures c.args.bytes.now kept.rows kept.read) in
    let refused = row_refused c.args.object.now c.args.bytes.now (fields_of c.next_row.new.row) c.rows.entries.items c.take_entry.new.entries.items c.rows.reader c.next_row.new.reader c.in_err-take_entry.field-0.0 kept read c.in_err-take_entry.ensures in
    passed_on (history_in c.args.object.now c.args.bytes.now) c.from_residual-in_err-take_entry.result c.in_err-take_entry.field-0.0 c.from_residual-in_err-take_entry.ensures.1 refused

pub returns : goal.returns
returns c =
    let kept = c.rows.invariant.kept in
    let all = rw c.if-branch.false at (c.in_ok-next_row.ensures c.args.bytes.now kept.rows kept.read) in
    rw c.from_vec.ensures (ap (read_from (with_entry (kind_of c.args.object.now)) []) all ∙ kept.kept)
