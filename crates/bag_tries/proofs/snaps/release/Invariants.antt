use Rattle.std.proofs.Common.{◌≡◌, ◌-◌, []}
use Rattle.bag_rule.specs.Seats.{IsSame}
use Rattle.bag_tries.specs.Seats.{HasRead}
use Rattle.bag_tries.specs.Snaps.{KeepsFirst}
use Rattle.bag_tries.proofs.snaps.release.Given as goal

abbrev pub invariant-loop-step : goal.invariant-loop-step
invariant-loop-step g l = IsSame l.initial.seat l.seat × KeepsFirst l.seat.me (l.count - l.step) × (l.seat.me.0.joint ≡ l.initial.seat.me.0.joint) × HasRead l.initial.seat.me.0 l.seat.me.0 []
