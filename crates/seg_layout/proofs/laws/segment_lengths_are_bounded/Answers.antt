use Rattle.seg_layout.proofs.Powers.{powers_of_two}
use Rattle.seg_layout.proofs.laws.segment_lengths_are_bounded.Goals as goal

pub returns-clause-powers : goal.returns-clause-powers
returns-clause-powers c = powers_of_two
