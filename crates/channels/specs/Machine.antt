-- The machine behind a channel, whichever of the two it is.
use Rattle.channel_core.specs.Kept.{Kept}
use Rattle.channels.specs.declared.machine.ChannelMachine.{ChannelMachine}
use Rattle.channels.specs.declared.machine.ChannelMachine.TheVariants.{Ordered, Prioritized}

abbrev pub kept : {T : Type 0} → ChannelMachine T → Kept
kept (Ordered state) = state
kept (Prioritized state) = state
