use Rattle.std.proofs.Common.{arith}
use Rattle.std.specs.Prelude.{Some, None}
use Rattle.std.proofs.lemmas.List.{take-map, length-map}
use Rattle.ho_base.specs.Marks.{number_priority}
use Rattle.ho_model.specs.Evaluated.{state_of}
use Rattle.ho_model.proofs.Played.{state_more, legal_whole}
use Rattle.ho_model.proofs.replays.replay.Goals as goal

pub loop-i-preserved : goal.loop-i-preserved
loop-i-preserved c =
    state_more number_priority c.args.object.now c.args.history.now c.loop-i.i c.index-history-i.result
    (state_of c.loop-i.plain) (Some (state_of c.accepts.new.self)) (omega arith) c.index-history-i.is c.loop-i.invariant
    (rw c.if-not-branch.false at c.in_ok-accepts.ensures)

pub returns-then-not-branch : goal.returns-then-not-branch
returns-then-not-branch c = (
  rw length-map (omega arith),
  rw take-map (state_of c.loop-i.plain, c.loop-i.invariant),
  rw take-map
      (state_more number_priority c.args.object.now c.args.history.now c.loop-i.i c.index-history-i.result
      (state_of c.loop-i.plain) None (omega arith) c.index-history-i.is c.loop-i.invariant
      (rw c.if-not-branch.true at c.in_ok-accepts.ensures)),
)

pub returns : goal.returns
returns c = legal_whole number_priority c.args.object.now c.args.history.now c.loop-i.i (state_of c.loop-i.plain) (omega arith) c.loop-i.invariant
