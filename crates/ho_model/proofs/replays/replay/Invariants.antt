use Rattle.std.proofs.Common.{◌≡◌, take}
use Rattle.std.specs.Prelude.{Some}
use Rattle.ho_base.specs.Marks.{number_priority}
use Rattle.ho_model.specs.Histories.{state_after}
use Rattle.ho_model.specs.Written.{history_of}
use Rattle.ho_model.specs.Evaluated.{state_of}
use Rattle.ho_model.proofs.replays.replay.Given as goal

abbrev pub invariant-loop-i : goal.invariant-loop-i
invariant-loop-i l =
    state_after number_priority l.object (history_of l.object (take l.i l.history)) ≡ Some (state_of l.plain)
