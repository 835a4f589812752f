use Rattle.std.proofs.Common.{◌≡◌, ◌++◌, map, take, drop}
use Rattle.ho_model.specs.Channel as channel
use Rattle.ho_model.proofs.replays.waits.tell_all.Given as goal

abbrev pub invariant-loop-w : goal.invariant-loop-w
invariant-loop-w l =
    l.waits ≡ map (channel.tell l.fault) (take l.w-index l.initial.waits) ++ drop l.w-index l.initial.waits
