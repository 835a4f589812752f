use Rattle.std.proofs.Common.{refl}
use Rattle.channel_core.proofs.Counts.{sound_start}
use Rattle.priority_core.proofs.state.PriorityState.new.Goals as goal

pub invariant_of-result : goal.invariant_of-result
invariant_of-result g c =
    rw (c.new-2.ensures.store, c.new.ensures.arrivals, c.new-2.ensures.begins, c.new-2.ensures.mode) (sound_start _ _ _ _ c.requires.callers.1 refl tt (λ _. refl))
