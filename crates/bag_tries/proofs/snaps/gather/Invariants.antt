use Rattle.std.proofs.Common.{◌≡◌}
use Rattle.bag_rule.specs.Seats.{IsSame}
use Rattle.bag_tries.specs.Snaps.{Gathers, numbers_of}
use Rattle.bag_tries.proofs.snaps.gather.Given as goal

abbrev pub invariant-loop-list : goal.invariant-loop-list
invariant-loop-list g l = IsSame l.initial.seat l.seat × Gathers g.T.Item.priority_of l.initial.seat.me.0 l.seat.me l.list × (l.numbers.items ≡ numbers_of l.seat.me.1)
