use Rattle.std.proofs.Common.{◌≡◌, ◌++◌, List}
use Rattle.bag_rule.specs.declared.view.Obstacle.{Obstacle}
use Rattle.bag_rule.specs.Seats.{IsSame}
use Rattle.bag_tries.proofs.snaps.take_at_last.Given as goal

abbrev pub invariant-loop : goal.invariant-loop
invariant-loop g l = let m = l.initial.seat.me in IsSame l.initial.seat l.seat × (read : List Obstacle) × (l.seat.me ≡ (record m.0 { met = m.0.met ++ read }, m.1))
