use Rattle.std.proofs.Common.{ℕ}
use Rattle.channel_wait.proofs.tests.rows.+polled.Given as goal

abbrev pub decreases-polled : goal.decreases-polled
decreases-polled l = l.polls
