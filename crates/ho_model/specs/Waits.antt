-- What contracts see of the waits of a channel that is played.
use Rattle.std.specs.Prelude.{Bool}
use Rattle.ho_model.specs.declared.replays.standing.Standing.{Standing}
use Rattle.ho_model.specs.declared.replays.standing.Standing.TheVariants as standing
use Rattle.ho_model.specs.declared.replays.standing.Want.{Want}
use Rattle.ho_model.specs.declared.replays.standing.Want.TheVariants as want
use Rattle.ho_model.specs.Channel as channel
use Rattle.ho_model.specs.Written.{mark_of, giving}

abbrev pub standing_of : Standing → channel.Standing
standing_of standing.WantsItem = channel.WantsItem
standing_of (standing.WantsRoom item) = channel.WantsRoom (mark_of item)
standing_of standing.LooksForItem = channel.LooksForItem
standing_of standing.LooksForRoom = channel.LooksForRoom
standing_of (standing.Answered reply) = channel.Answered (giving reply)

-- which waits are meant
abbrev pub wanted : Want → channel.Standing → Bool
wanted want.Item = channel.wants_item
wanted want.Room = channel.wants_room
wanted want.LookForItem = channel.looks_for_item
wanted want.LookForRoom = channel.looks_for_room
