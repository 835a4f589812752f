use Rattle.channel_laws.proofs.Histories.{begins_are_of_channels}
use Rattle.channel_laws.proofs.only_channels_have_waits.Goals as goal

pub returns : goal.returns
returns g = begins_are_of_channels
