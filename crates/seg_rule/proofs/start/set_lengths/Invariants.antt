use Rattle.seg_rule.specs.Blank.{IsFilled}
use Rattle.seg_rule.proofs.start.set_lengths.Given as goal

abbrev pub invariant-loop-place : goal.invariant-loop-place
invariant-loop-place l = IsFilled l.form l.form.places l.place 0 l.words
