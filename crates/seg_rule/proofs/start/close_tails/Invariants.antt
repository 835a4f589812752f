use Rattle.std.proofs.Common.{◌≤◌}
use Rattle.seg_rule.specs.Blank.{IsFilled}
use Rattle.seg_rule.proofs.start.close_tails.Given as goal

abbrev pub invariant-loop-place : goal.invariant-loop-place
invariant-loop-place l = (1 ≤ l.place) × IsFilled l.form l.place 0 0 l.words
