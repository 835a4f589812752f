use Rattle.std.proofs.Common.{ℕ, ◌+◌, arith, subst, sym, set}
use Rattle.seg_rule.specs.Blank.{IsFilled}
use Rattle.seg_rule.proofs.Fills.{length_more}
use Rattle.seg_rule.proofs.start.set_lengths.Goals as goal

pub loop-place-preserved : goal.loop-place-preserved
loop-place-preserved c = let f = c.args.form.now in let l = c.loop-place-test.true in
    subst (λ (z : ℕ). IsFilled f f.places (c.loop-place.place + 1) 0 (set c.loop-place.words c.index-at.result z)) (sym c.from-length.ensures)
    (length_more f c.loop-place.place c.index-at.result c.loop-place.words (omega arith) c.index-at.ensures c.loop-place.invariant)
