use Rattle.std.proofs.Common.{◌≡◌}
use Rattle.std.specs.Prelude.{All}
use Rattle.turn_lock.proofs.tests.threads.jobs_of.Given as goal

abbrev pub invariant-loop-task : goal.invariant-loop-task
invariant-loop-task l = (l.pass.table ≡ l.shared) × All (λ job. job.pass.table ≡ l.shared) l.jobs.items
