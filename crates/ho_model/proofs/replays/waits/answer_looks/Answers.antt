use Rattle.std.proofs.Common.{arith, true}
use Rattle.ho_model.specs.Channel as channel
use Rattle.ho_model.specs.Entries.{Ready}
use Rattle.ho_model.specs.Waits.{wanted}
use Rattle.ho_model.proofs.Waiting.{changed_more}
use Rattle.ho_model.proofs.replays.waits.answer_looks.Goals as goal

pub loop-w-preserved : goal.loop-w-preserved
loop-w-preserved c =
    changed_more (channel.answer_if (wanted c.args.want) (Ready true)) c.args.waits.now c.loop-w.waits c.loop-w.w-index c.w-item.result c.answer_look.new.self
    (omega arith) (omega arith) c.loop-w.invariant c.answer_look.ensures
