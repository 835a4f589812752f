use Rattle.std.proofs.Common.{arith}
use Rattle.seg_rule.proofs.Fills.{tail_more}
use Rattle.seg_rule.proofs.start.close_tails.Goals as goal

pub loop-place-preserved : goal.loop-place-preserved
loop-place-preserved c = let i = c.loop-place.invariant in let l = c.loop-place-test.true in
    (omega arith, tail_more c.args.form.now c.loop-place.place c.index-at.result c.loop-place.words (omega arith) (omega arith) c.index-at.ensures i.1)
