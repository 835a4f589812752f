use Rattle.std.proofs.Common.{ap, ◌∙◌}
use Rattle.ho_model.specs.Channel.{wants_room}
use Rattle.ho_model.proofs.Waiting.{oldest_wants_room}
use Rattle.ho_model.proofs.replays.waits.admit.Goals as goal

pub entering-requires : goal.entering-requires
entering-requires c =
    ap wants_room c.answer.ensures.standing ∙ oldest_wants_room c.args.waits.now c.args.place c.index-waits-place.result c.requires
