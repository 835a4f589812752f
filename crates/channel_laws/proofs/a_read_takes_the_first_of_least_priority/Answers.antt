use Rattle.channel_laws.proofs.Least.{reads_take_first_least}
use Rattle.channel_laws.proofs.a_read_takes_the_first_of_least_priority.Goals as goal

pub returns : goal.returns
returns g = reads_take_first_least
