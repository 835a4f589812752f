use Rattle.std.proofs.Common.{arith}
use Rattle.seg_layout.proofs.Powers.{lengths_are_bounded}
use Rattle.seg_rule.proofs.Fills.{some_place, number_more}
use Rattle.seg_rule.proofs.start.free_slots.Goals as goal

pub loop-slot-preserved : goal.loop-slot-preserved
loop-slot-preserved c = let f = c.args.form.now in let s = c.requires.shape.0 in let l = c.loop-slot-test.true in
    let long = (lengths_are_bounded f.first_len f.first_len s.first_len).0.1 in let e = s.slots in
    number_more f c.loop-slot.slot c.index-at.result c.loop-slot.words (omega arith) (some_place f s) c.index-at.ensures c.loop-slot.invariant
