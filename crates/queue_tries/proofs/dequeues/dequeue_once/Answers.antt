use Rattle.std.proofs.Common.{rules, ◌∙◌}
use Rattle.ho_model.specs.declared.marks.CallMark.TheVariants.{Deq}
use Rattle.queue_tries.specs.Tries.{HasNoCallLeft}
use Rattle.queue_tries.proofs.Searching.{asks_dequeue, ends_asks}
use Rattle.queue_tries.proofs.dequeues.dequeue_once.Goals as goal

pub returns-in-Found-clause-told : goal.returns-in-Found-clause-told
returns-in-Found-clause-told c =
    let below : ¬ HasNoCallLeft c.args.pass.now = search rules in
    let found = c.in-Found.ensures.found in
    asks_dequeue c.args.pass.now c.take_front.new.pass c.take_front.result
    (ends_asks c.args.pass.now c.take_front.new.pass (c.take_front.ensures.same ∙ c.find_front.ensures.same) c.caller-caller.ensures.own below c.take_front.ensures.idle.1.stage c.find_front.new.pass.view found.0 found.1 Deq c.take_front.result c.take_front.ensures.told)
