use Rattle.std.proofs.Common.{[], ◌∷◌}
use Rattle.seg_rule.specs.declared.view.Obstacle.TheVariants.{NotFree}
use Rattle.queue_tries.proofs.Walks.{goes_quiet, goes_met}
use Rattle.queue_tries.proofs.Enqueuing.{may_reserve, turned_after}
use Rattle.queue_tries.proofs.enqueues.enqueue_at.Goals as goal

pub answer_put-requires-clause-may : goal.answer_put-requires-clause-may
answer_put-requires-clause-may c = may_reserve c.args.table.now.form.room c.args.pass.now.view c.see_slot.new.pass.view c.args.place c.args.tail c.args.head c.requires.free.0 c.requires.may c.requires.notes c.requires.room.0 c.in-None.ensures.seen

pub returns-in-None-clause-told : goal.returns-in-None-clause-told
returns-in-None-clause-told c =
    let v = c.args.pass.now.view in let w = c.see_slot.new.pass.view in let seen = c.in-None.ensures.seen in
    turned_after v w c.answer_put.new.pass.view [] (goes_quiet v w seen.notes v.stage seen.left) c.args.value c.answer_put.result c.answer_put.ensures.told

pub returns-in-Some-clause-told : goal.returns-in-Some-clause-told
returns-in-Some-clause-told c =
    let v = c.args.pass.now.view in let w = c.see_slot.new.pass.view in let seen = c.in-Some.ensures.seen in
    turned_after v w c.enqueue_next.new.pass.view (NotFree c.args.place c.args.tail seen.number ∷ []) (goes_met v w (NotFree c.args.place c.args.tail seen.number ∷ []) seen.notes v.stage seen.left) c.args.value c.enqueue_next.result c.enqueue_next.ensures.told
