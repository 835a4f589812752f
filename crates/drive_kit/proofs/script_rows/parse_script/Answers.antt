use Rattle.std.proofs.Common.{◌≡◌, [], ◌∷◌, Bool, true, false, not, ap, arith, rules, length, refl}
use Rattle.csv.specs.Records.{fields_of}
use Rattle.drive_kit.specs.Plans.{Plan}
use Rattle.drive_kit.specs.Scripts.{plan_of, script_of, with_row}
use Rattle.drive_kit.proofs.ReadingLemmas.{has_kept_more, has_kept_none}
use Rattle.drive_kit.proofs.ScriptLemmas.{begun_empty, first_refused, later_refused, passed_on, row_more, script_read}
use Rattle.drive_kit.proofs.script_rows.parse_script.Goals as goal

not_true : (b : Bool) → not b ≡ true → b ≡ false
not_true true h = cc
not_true false h = refl

not_false : (b : Bool) → not b ≡ false → b ≡ true
not_false true h = refl
not_false false h = cc

pub returns-then-not-branch : goal.returns-then-not-branch
returns-then-not-branch c =
    let none : c.in_ok-next_row.field-0 ≡ false = search (rules, not_true) in
    let rows = rw none at (c.in_ok-next_row.ensures c.args.bytes.now [] c.new_reader-reader.ensures) in
    rw c.at.ensures (ap plan_of rows)

pub returns-in_err-script : goal.returns-in_err-script
returns-in_err-script c =
    let found : c.in_ok-next_row.field-0 ≡ true = search (rules, not_false) in
    let read = rw found at (c.in_ok-next_row.ensures c.args.bytes.now [] c.new_reader-reader.ensures) in
    let refused = first_refused c.args.bytes.now (fields_of c.next_row.new.row) c.next_row.new.reader c.in_err-script.field-0.0 read c.in_err-script.ensures in
    passed_on (script_of c.args.bytes.now) c.from_residual-in_err-script.result c.in_err-script.field-0.0 c.from_residual-in_err-script.ensures.1 refused

pub rows-init : goal.rows-init
rows-init c =
    let found : c.in_ok-next_row.field-0 ≡ true = search (rules, not_false) in
    let read = rw found at (c.in_ok-next_row.ensures c.args.bytes.now [] c.new_reader-reader.ensures) in
    let none = ap length (begun_empty (fields_of c.next_row.new.row) c.in_ok-script.script c.in_ok-script.ensures) in (
      fields_of c.next_row.new.row,
      c.in_ok-script.script,
      c.in_ok-script.ensures,
      has_kept_none Plan with_row c.in_ok-script.script (fields_of c.next_row.new.row ∷ []) c.args.bytes.now c.next_row.new.reader read,
      omega (arith, none),
    )

pub returns-in_err-script-2 : goal.returns-in_err-script-2
returns-in_err-script-2 c =
    let inv = c.rows.invariant in
    let read = rw c.if-branch.true at (c.in_ok-next_row-2.ensures c.args.bytes.now (inv.0 ∷ inv.3.rows) inv.3.read) in
    let refused = later_refused c.args.bytes.now inv.0 (fields_of c.next_row-in-rows.new.row) inv.1 c.rows.script c.rows.reader c.next_row-in-rows.new.reader c.in_err-script-2.field-0.0 inv.2 inv.3 read c.in_err-script-2.ensures in
    passed_on (script_of c.args.bytes.now) c.from_residual-in_err-script-2.result c.in_err-script-2.field-0.0 c.from_residual-in_err-script-2.ensures.1 refused

pub rows-smaller : goal.rows-smaller
rows-smaller c =
    let more = row_more c.rows.script c.in_ok-script-2.script (fields_of c.next_row-in-rows.new.row) c.in_ok-script-2.ensures in
    omega (arith, more, c.rows.invariant.4)

pub rows-preserved : goal.rows-preserved
rows-preserved c =
    let inv = c.rows.invariant in
    let read = rw c.if-branch.true at (c.in_ok-next_row-2.ensures c.args.bytes.now (inv.0 ∷ inv.3.rows) inv.3.read) in
    let more = row_more c.rows.script c.in_ok-script-2.script (fields_of c.next_row-in-rows.new.row) c.in_ok-script-2.ensures in (
      inv.0,
      inv.1,
      inv.2,
      has_kept_more Plan with_row inv.1 (inv.0 ∷ []) c.args.bytes.now c.rows.reader c.next_row-in-rows.new.reader c.rows.script c.in_ok-script-2.script (fields_of c.next_row-in-rows.new.row) inv.3 read c.in_ok-script-2.ensures,
      omega (arith, more, inv.4),
    )

pub returns : goal.returns
returns c =
    let inv = c.rows.invariant in
    let all = rw c.if-branch.false at (c.in_ok-next_row-2.ensures c.args.bytes.now (inv.0 ∷ inv.3.rows) inv.3.read) in
    script_read c.args.bytes.now inv.0 inv.1 c.rows.script c.rows.reader inv.2 inv.3 all
