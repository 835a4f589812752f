use Rattle.channel_laws.proofs.Histories.{reached_by}
use Rattle.channel_laws.proofs.waits_stand_only_where_they_must.Goals as goal

pub returns : goal.returns
returns g = reached_by
