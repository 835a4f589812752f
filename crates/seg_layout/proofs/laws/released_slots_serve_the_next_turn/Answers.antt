use Rattle.seg_layout.proofs.Firsts.{firsts_are_inside}
use Rattle.seg_layout.proofs.laws.released_slots_serve_the_next_turn.Goals as goal

pub returns-clause-inside : goal.returns-clause-inside
returns-clause-inside c = firsts_are_inside
