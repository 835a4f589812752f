use Rattle.std.proofs.Common.{◌+◌, ◌*◌}
use Rattle.passes.specs.Numbers.{held_count}
use Rattle.drive_kit.specs.Playing.{pass_of}
use Rattle.drive_kit.proofs.callers.+callers.Given as goal

abbrev pub decreases-join+arg3 : goal.decreases-join+arg3
decreases-join+arg3 g l = 2 * held_count (pass_of l.pass).held + 1

abbrev pub decreases-play_all : goal.decreases-play_all
decreases-play_all g l = 2 * held_count (pass_of l.pass).held
