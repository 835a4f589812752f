use Rattle.std.proofs.Common.{refl}
use Rattle.ho_model.specs.Histories.{StandsFor}
use Rattle.turn_lock.proofs.Ends.{starts}
use Rattle.turn_lock.proofs.shared.Shared.new.Goals as goal

pub new-requires : goal.new-requires
new-requires g c = let m = g.M.Stepper in
    rw (c.of.ensures, c.push_reserved.ensures.items, c.in-Ok.ensures.items) (starts m.priority (StandsFor m.priority m.object m.callers m.state m.steps m.tally) (m.object c.args.machine) c.args.callers c.args.machine c.requires.callers.1 c.requires.machine (_, refl))
