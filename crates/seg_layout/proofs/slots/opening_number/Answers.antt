use Rattle.seg_layout.proofs.Firsts.{in_the_next_turn, in_this_turn}
use Rattle.seg_layout.proofs.slots.opening_number.Goals as goal

pub returns-then-in_this_turn-start : goal.returns-then-in_this_turn-start
returns-then-in_this_turn-start c = in_the_next_turn c.args.start c.args.len c.args.slot c.requires.slot c.if-in_this_turn-start.true

pub returns-else-in_this_turn-start : goal.returns-else-in_this_turn-start
returns-else-in_this_turn-start c = in_this_turn c.args.start c.args.len c.args.slot c.requires.slot c.if-in_this_turn-start.false
