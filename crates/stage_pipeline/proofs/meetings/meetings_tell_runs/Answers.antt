use Rattle.stage_pipeline.proofs.Telling.{meetings_tell}
use Rattle.stage_pipeline.proofs.meetings.meetings_tell_runs.Goals as goal

pub returns : goal.returns
returns g = meetings_tell
