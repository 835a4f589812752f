use Rattle.std.proofs.Common.{◌≡◌}
use Rattle.std.specs.Prelude.{All}
use Rattle.turn_lock.proofs.tests.split_all.Given as goal

abbrev pub invariant-loop : goal.invariant-loop
invariant-loop l = (l.pass.table ≡ l.shared) × All (λ other. other.table ≡ l.shared) l.others.items
