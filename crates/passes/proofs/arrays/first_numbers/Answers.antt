use Rattle.std.proofs.Common.{arith, ap, set, ◌∙◌, ◌<◌, true}
use Rattle.passes.proofs.Flags.{one_more}
use Rattle.passes.proofs.arrays.first_numbers.Goals as goal

pub loop-number-preserved : goal.loop-number-preserved
loop-number-preserved c = let lt : c.loop-number.number < 64 = omega arith in ap (λ h. set h c.loop-number.number true) c.loop-number.invariant ∙ one_more c.loop-number.number 64 lt
