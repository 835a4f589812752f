use Rattle.seg_rule.specs.Blank.{IsFilled}
use Rattle.seg_rule.proofs.start.free_slots.Given as goal

abbrev pub invariant-loop-slot : goal.invariant-loop-slot
invariant-loop-slot l = IsFilled l.form l.form.places l.form.places l.slot l.words
