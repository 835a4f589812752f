use Rattle.std.proofs.Common.{arith}
use Rattle.ho_model.specs.Channel as channel
use Rattle.ho_model.proofs.Waiting.{changed_more}
use Rattle.ho_model.proofs.replays.waits.tell_all.Goals as goal

pub loop-w-preserved : goal.loop-w-preserved
loop-w-preserved c =
    changed_more (channel.tell c.args.fault) c.args.waits.now c.loop-w.waits c.loop-w.w-index c.w-item.result c.tell.new.self
    (omega arith) (omega arith) c.loop-w.invariant c.tell.ensures
