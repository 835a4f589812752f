use Rattle.std.proofs.Common.{List}
use Rattle.bag_rule.specs.declared.view.Obstacle.{Obstacle}
use Rattle.bag_rule.specs.Seats.{IsSame}
use Rattle.bag_tries.specs.Seats.{IsIdle, HasRead}
use Rattle.bag_tries.proofs.waits.take.Given as goal

abbrev pub invariant-loop : goal.invariant-loop
invariant-loop g l = IsSame l.initial.seat l.seat × IsIdle l.seat.me × (read : List Obstacle) × HasRead l.initial.seat.me.0 l.seat.me.0 read
