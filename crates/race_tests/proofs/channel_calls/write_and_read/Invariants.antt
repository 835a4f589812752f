use Rattle.std.proofs.Common.{◌≡◌}
use Rattle.race_tests.proofs.channel_calls.write_and_read.Given as goal

abbrev pub invariant-loop-number : goal.invariant-loop-number
invariant-loop-number g l = l.pass.table ≡ l.channel
