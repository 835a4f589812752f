use Rattle.std.proofs.Common.{◌≡◌, ◌++◌, map, take, drop, true}
use Rattle.ho_model.specs.Channel as channel
use Rattle.ho_model.specs.Entries.{Ready}
use Rattle.ho_model.specs.Waits.{wanted}
use Rattle.ho_model.proofs.replays.waits.answer_looks.Given as goal

abbrev pub invariant-loop-w : goal.invariant-loop-w
invariant-loop-w l =
    l.waits ≡ map (channel.answer_if (wanted l.want) (Ready true)) (take l.w-index l.initial.waits) ++ drop l.w-index l.initial.waits
