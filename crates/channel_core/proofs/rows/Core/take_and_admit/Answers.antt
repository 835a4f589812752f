use Rattle.ho_model.specs.Channel as channel
use Rattle.channel_core.specs.Marks.{waits_mark}
use Rattle.channel_core.proofs.Reading.{oldest_is}
use Rattle.channel_core.proofs.rows.Core.take_and_admit.Goals as goal

pub admit-next-requires-clause-wants : goal.admit-next-requires-clause-wants
admit-next-requires-clause-wants g c =
    rw c.as_mut_slice.ensures.value
    (oldest_is channel.wants_room (waits_mark g.T.Marked.mark c.args.self.now.waits.items) c.args.writer c.requires.writer)
