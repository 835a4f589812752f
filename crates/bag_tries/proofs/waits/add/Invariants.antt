use Rattle.std.proofs.Common.{◌≡◌, List}
use Rattle.bag_rule.specs.declared.view.Obstacle.{Obstacle}
use Rattle.bag_rule.specs.Seats.{IsSame}
use Rattle.bag_tries.specs.Causes.{AreHeld}
use Rattle.bag_tries.specs.Seats.{IsIdle, HasRead}
use Rattle.bag_tries.proofs.waits.add.Given as goal

abbrev pub invariant-loop : goal.invariant-loop
invariant-loop g l = (l.given ≡ l.initial.given) × IsSame l.initial.seat l.seat × IsIdle l.seat.me × (read : List Obstacle) × HasRead l.initial.seat.me.0 l.seat.me.0 read × AreHeld l.initial.seat.me.0.callers l.caller l.initial.seat.me.0.held read
