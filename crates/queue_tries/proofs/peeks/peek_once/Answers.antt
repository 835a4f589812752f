use Rattle.std.proofs.Common.{rules, ◌∙◌}
use Rattle.ho_model.specs.declared.marks.CallMark.TheVariants.{Peek}
use Rattle.queue_tries.specs.Tries.{HasNoCallLeft}
use Rattle.queue_tries.proofs.Searching.{asks_peek, ends_asks}
use Rattle.queue_tries.proofs.peeks.peek_once.Goals as goal

pub returns-in-Found-clause-told : goal.returns-in-Found-clause-told
returns-in-Found-clause-told c =
    let below : ¬ HasNoCallLeft c.args.pass.now = search rules in
    let found = c.in-Found.ensures.found in
    asks_peek c.args.pass.now c.show_front.new.pass c.show_front.result
    (ends_asks c.args.pass.now c.show_front.new.pass (c.show_front.ensures.same ∙ c.find_front.ensures.same) c.caller-caller.ensures.own below c.show_front.ensures.idle.1.stage c.find_front.new.pass.view found.0 found.1 Peek c.show_front.result c.show_front.ensures.told)
