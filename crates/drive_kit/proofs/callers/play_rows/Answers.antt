use Rattle.std.proofs.Common.{sym}
use Rattle.std.proofs.lemmas.List.{get_or_default}
use Rattle.drive_kit.specs.Playing.{pass_of}
use Rattle.drive_kit.proofs.PlayLemmas.{none_made_yet, row_begun, rows_unpaid, same_at_start}
use Rattle.drive_kit.proofs.callers.play_rows.Goals as goal

pub loop-row-init : goal.loop-row-init
loop-row-init g c = record {
  of = c.requires.ready.of;
  same = same_at_start _ c.requires.ready.own;
  played = none_made_yet c.args.stand.now (pass_of c.args.pass.now) c.new-own.result c.requires.ready.fresh c.new-own.ensures c.caller_of.ensures.caller;
}

pub returns-in_err-play_row-clause-played : goal.returns-in_err-play_row-clause-played
returns-in_err-play_row-clause-played g c =
    rows_unpaid _ _ _ c.from_residual.result c.from_residual.ensures.0
    (row_begun c.args.stand.now c.args.rows.now c.loop-row.row-index _ _ _ _ _ _ c.loop-row-test.true (sym (get_or_default c.args.rows.now c.loop-row.row-index _ _ c.loop-row-test.true)) c.play_row.result c.in_err-play_row.was c.play_row.ensures.played c.loop-row.invariant.played)
