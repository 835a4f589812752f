use Rattle.record_lang.specs.Texts.{result_line}
use Rattle.record_lang.proofs.PieceLemmas.{all_pieces, no_piece, one_piece_more}
use Rattle.record_lang.proofs.report_rows.put_results.Goals as goal

pub loop-outcome-init : goal.loop-outcome-init
loop-outcome-init c = record { ready = c.requires; lines = λ text h. no_piece result_line c.args.outcomes.now text _ h }

pub loop-outcome-preserved : goal.loop-outcome-preserved
loop-outcome-preserved c =
    record {
      ready = c.in_ok-put_if_result.ensures.ready;
      lines = λ text h. one_piece_more result_line c.args.outcomes.now c.loop-outcome.outcome-index c.outcome-item.result text _ c.loop-outcome-test.true c.outcome-item.is (c.in_ok-put_if_result.ensures.lines _ (c.loop-outcome.invariant.lines text h));
    }

pub returns-clause-lines : goal.returns-clause-lines
returns-clause-lines c = λ text h. all_pieces result_line c.args.outcomes.now c.loop-outcome.outcome-index text _ c.loop-outcome-test.false (c.loop-outcome.invariant.lines text h)
