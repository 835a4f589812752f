use Rattle.std.proofs.Common.{◌∙◌}
use Rattle.queue_snapshot.proofs.Following.{snaps_whole}
use Rattle.queue_snapshot.proofs.vectors.to_vec.Goals as goal

pub returns : goal.returns
returns g c =
    snaps_whole c.args.queue.now c.args.queue.now.first_len c.args.pass.now c.open-receipt.new.pass c.read_all.new.pass c.window_end.new.pass c.open-receipt.result.0 c.read_all.new.window c.open-receipt.result.1 c.from_vec.result _ c.requires c.open-receipt.ensures.opens c.read_all.ensures.given.0 (c.from_vec.ensures ∙ c.read_all.ensures.all) c.window_end.ensures
