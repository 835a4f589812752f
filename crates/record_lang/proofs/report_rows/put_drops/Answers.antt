use Rattle.record_lang.specs.Texts.{dropped_line}
use Rattle.record_lang.proofs.PieceLemmas.{all_pieces, no_piece, one_read_more}
use Rattle.record_lang.proofs.report_rows.put_drops.Goals as goal

pub loop-one-init : goal.loop-one-init
loop-one-init c = record { ready = c.requires; lines = λ text h. no_piece dropped_line c.args.dropped.now text _ h }

pub loop-one-preserved : goal.loop-one-preserved
loop-one-preserved c =
    record {
      ready = c.in_ok-put_dropped.ensures.ready;
      lines = λ text h. one_read_more dropped_line c.args.dropped.now c.loop-one.one-index _ text _ c.loop-one-test.true (c.in_ok-put_dropped.ensures.lines _ (c.loop-one.invariant.lines text h));
    }

pub returns-clause-lines : goal.returns-clause-lines
returns-clause-lines c = λ text h. all_pieces dropped_line c.args.dropped.now c.loop-one.one-index text _ c.loop-one-test.false (c.loop-one.invariant.lines text h)
