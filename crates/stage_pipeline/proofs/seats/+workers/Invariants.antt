-- Each call has one worker less.
use Rattle.std.proofs.Common.{◌+◌, ◌*◌}
use Rattle.stage_pipeline.proofs.seats.+workers.Given as goal

abbrev pub decreases-work_all : goal.decreases-work_all
decreases-work_all g l = 2 * l.workers

abbrev pub decreases-join+arg3 : goal.decreases-join+arg3
decreases-join+arg3 g l = 2 * l.left + 1
