use Rattle.std.proofs.Common.{arith}
use Rattle.ho_model.specs.Channel as channel
use Rattle.channel_core.specs.Marks.{fault_number, waiter_mark}
use Rattle.channel_core.proofs.Places.{mapped_more}
use Rattle.channel_core.proofs.waits.tell_all.Goals as goal

pub loop-w-preserved : goal.loop-w-preserved
loop-w-preserved g c =
    let mark = waiter_mark g.T.Marked.mark in
    let change = channel.tell (fault_number c.args.fault.now) in
    mapped_more mark change c.args.waits.now c.loop-w.waits c.loop-w.w-index c.tell.new.self c.w-item.result
    (omega arith) (omega arith) c.loop-w.invariant
    c.tell.ensures
