use Rattle.std.proofs.Common.{◌∙◌, ap, arith, length, refl, sym}
use Rattle.std.proofs.lemmas.List.{length-append}
use Rattle.csv.specs.Records.{fields_of}
use Rattle.text_rows.specs.Rows.{rows_of}
use Rattle.record_lang.specs.Rows.{fields_in}
use Rattle.record_lang.proofs.FaultLemmas.{no_fault, numbered_more}
use Rattle.record_lang.proofs.KeptLemmas.{few, one_too_many, passed_on, row_kept, row_refused}
use Rattle.record_lang.proofs.rows.read_records.Goals as goal

pub rows-init : goal.rows-init
rows-init c = rw c.new-records.ensures (record { read = c.new_reader-reader.ensures; numbered = refl; fine = refl; few = omega arith })

pub returns-then-as_slice-eq-MAX_ROWS : goal.returns-then-as_slice-eq-MAX_ROWS
returns-then-as_slice-eq-MAX_ROWS c =
    let inv = c.rows.invariant in
    let read = rw c.if-branch.true at (c.in_ok-next_row.ensures c.args.bytes.now (fields_in c.rows.records) inv.read) in
    one_too_many c.args.bytes.now c.rows.records (fields_of c.next_row.new.row) c.next_row.new.reader read inv.fine (ap length (sym c.as_slice.ensures.rows) ∙ c.if-as_slice-eq-MAX_ROWS.true)

pub rows-smaller : goal.rows-smaller
rows-smaller c =
    let took = c.in_ok-take_row.ensures.1 in
    let more = ap length took ∙ length-append c.rows.records _ in
    let rows = ap length c.as_slice.ensures.rows in
    omega (arith, more, rows, c.if-as_slice-eq-MAX_ROWS.false, c.rows.invariant.few)

pub rows-preserved : goal.rows-preserved
rows-preserved c =
    let inv = c.rows.invariant in
    let read = rw c.if-branch.true at (c.in_ok-next_row.ensures c.args.bytes.now (fields_in c.rows.records) inv.read) in
    let took = c.in_ok-take_row.ensures in
    let more = ap length took.1 ∙ length-append c.rows.records _ in
    let rows = ap length c.as_slice.ensures.rows in
    let kept = row_kept c.rows.records c.take_row.new.records (fields_of c.next_row.new.row) took.1 in
    let fewer = few c.rows.records (λ e. c.if-as_slice-eq-MAX_ROWS.false (rows ∙ e)) in
    record {
      read = rw kept read;
      numbered = took.1 ∙ numbered_more c.rows.records (fields_of c.next_row.new.row) inv.numbered ∙ rw kept refl;
      fine = rw kept (no_fault (fields_in c.rows.records) (fields_of c.next_row.new.row) inv.fine fewer took.0);
      few = omega (arith, more, rows, c.if-as_slice-eq-MAX_ROWS.false, inv.few);
    }

pub returns-in_err-take_row : goal.returns-in_err-take_row
returns-in_err-take_row c =
    let inv = c.rows.invariant in
    let read = rw c.if-branch.true at (c.in_ok-next_row.ensures c.args.bytes.now (fields_in c.rows.records) inv.read) in
    let rows = ap length c.as_slice.ensures.rows in
    let refused = row_refused c.args.bytes.now c.rows.records c.take_row.new.records (fields_of c.next_row.new.row) c.next_row.new.reader c.in_err-take_row.field-0.0 c.in_err-take_row.ensures read inv.fine (λ e. c.if-as_slice-eq-MAX_ROWS.false (rows ∙ e)) in
    passed_on (rows_of c.args.bytes.now) c.from_residual-in_err-take_row.result c.in_err-take_row.field-0.0 c.from_residual-in_err-take_row.ensures.1 refused

pub returns : goal.returns
returns c =
    let inv = c.rows.invariant in
    let all = rw c.if-branch.false at (c.in_ok-next_row.ensures c.args.bytes.now (fields_in c.rows.records) inv.read) in
    rw all (inv.fine, inv.numbered)
