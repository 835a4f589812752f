use Rattle.std.proofs.Common.{◌≡◌, ap, ◌∙◌, []}
use Rattle.seg_rule.specs.declared.view.View.{View}
use Rattle.queue_tries.specs.Tails.{at_tail, at_room}
use Rattle.queue_tries.proofs.Walks.{goes_quiet}
use Rattle.queue_tries.proofs.Enqueuing.{turned_after}
use Rattle.queue_tries.proofs.enqueues.enqueue_turned.Goals as goal

pub returns-in-Ok-clause-told : goal.returns-in-Ok-clause-told
returns-in-Ok-clause-told c =
    let v = c.args.pass.now.view in let w = c.see_room.new.pass.view in
    let place = c.see_current-place.result in let tail = c.in-Some.tail in let head = c.in-Ok.head in
    let is : w ≡ record v { notes = at_room place tail head } =
    c.in-Ok.ensures.seen.0 ∙ ap (λ (z : View). record z { notes = at_room place tail head }) (c.in-Some.ensures.seen.0 ∙ ap (λ (z : View). record z { notes = at_tail place tail }) c.see_current-place.ensures.seen) in
    turned_after v w c.enqueue_at.new.pass.view [] (goes_quiet v w (at_room place tail head) v.stage is) c.args.value c.enqueue_at.result c.enqueue_at.ensures.told
