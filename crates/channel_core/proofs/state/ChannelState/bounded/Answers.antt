use Rattle.std.proofs.Common.{refl}
use Rattle.channel_core.proofs.Counts.{sound_start}
use Rattle.channel_core.proofs.state.ChannelState.bounded.Goals as goal

pub invariant_of-result : goal.invariant_of-result
invariant_of-result g c =
    rw (c.new.ensures.store, c.new.ensures.begins, c.new.ensures.mode) (sound_start _ _ _ _ c.requires.callers.1 refl (rw c.in_ok-ring.ensures c.requires.capacity.0) (λ e. cc))
