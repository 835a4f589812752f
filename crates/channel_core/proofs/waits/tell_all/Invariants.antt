use Rattle.std.proofs.Common.{◌≡◌, ◌++◌, map, take, drop}
use Rattle.ho_model.specs.Channel as channel
use Rattle.channel_core.specs.Marks.{fault_number, waits_mark}
use Rattle.channel_core.proofs.waits.tell_all.Given as goal

abbrev pub invariant-loop-w : goal.invariant-loop-w
invariant-loop-w g l =
    let before = waits_mark g.T.Marked.mark l.initial.waits in
    waits_mark g.T.Marked.mark l.waits ≡ map (channel.tell (fault_number l.fault)) (take l.w-index before) ++ drop l.w-index before
