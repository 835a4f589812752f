use Rattle.std.proofs.Common.{◌≡◌}
use Rattle.bag_rule.specs.Seats.{IsSame}
use Rattle.bag_tries.specs.Takes.{Went}
use Rattle.bag_tries.proofs.searches.look_round.Given as goal

abbrev pub invariant-loop-step : goal.invariant-loop-step
invariant-loop-step g l = Went l.caller l.initial.seat.me.0 l.seat.me.0 l.callers l.step l.skipped × (l.seat.me.1 ≡ l.initial.seat.me.1) × IsSame l.initial.seat l.seat
