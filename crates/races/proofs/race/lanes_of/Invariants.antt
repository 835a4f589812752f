use Rattle.std.specs.Prelude.{All}
use Rattle.races.specs.Lanes.{IsReady}
use Rattle.races.proofs.race.lanes_of.Given as goal

abbrev pub invariant-loop-task : goal.invariant-loop-task
invariant-loop-task g l =
    (goal.iterator-loop-task g).can_next l.task-iterator × (goal.iterator-loop-task g).is_finite l.task-iterator
    × g.X.Race.is_of l.race l.pass × All (IsReady (g.X.Race.is_of l.race)) l.lanes.items
