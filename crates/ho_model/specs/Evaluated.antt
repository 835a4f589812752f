-- What contracts see of an evaluated object: its state.
use Rattle.ho_model.specs.declared.replays.plain.Plain.{Plain}
use Rattle.ho_model.specs.declared.replays.plain.Plain.TheVariants as plain
use Rattle.ho_model.specs.Objects.{State, QueueState, BagState, ChannelState, BlockingState}

abbrev pub state_of : Plain → State
state_of (plain.Queue items) = QueueState items
state_of (plain.Bag lists) = BagState lists
state_of (plain.Channel channel) = ChannelState channel
state_of (plain.Blocking blocking) = BlockingState blocking
