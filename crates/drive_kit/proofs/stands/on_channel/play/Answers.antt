use Rattle.ho_model.specs.Tallies.{tally_of}
use Rattle.drive_kit.proofs.TellLemmas.{adds_written, channel_told}
use Rattle.drive_kit.proofs.stands.on_channel.play.Goals as goal

pub returns-in-Ok-clause-adds : goal.returns-in-Ok-clause-adds
returns-in-Ok-clause-adds g c =
    let a = c.in-Ok.ensures.called.answers in
    let told = channel_told _ _ _ (tally_of a.0) _ _ c.requires.kind c.own_call.ensures a.3 c.written.ensures.gives c.written.ensures.shows in
    adds_written _ _ _ _ _ _ _ _ _ a.0 _ _ c.own_call.ensures told a.1.seen a.1.lawful a.2
