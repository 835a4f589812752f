use Rattle.std.proofs.Common.{true≢false, sym, ◌∙◌}
use Rattle.queue_tries.specs.Tries.{HasNoCallLeft}
use Rattle.queue_tries.specs.Tails.{at_current}
use Rattle.queue_tries.proofs.Walks.{walks_begin}
use Rattle.queue_tries.proofs.Enqueuing.{once_lost, once_turned}
use Rattle.queue_tries.proofs.enqueues.enqueue_once.Goals as goal

pub returns-in-Lost-clause-told : goal.returns-in-Lost-clause-told
returns-in-Lost-clause-told c =
    let p = c.args.pass.now in let u = c.begin_current-place.new.pass.view in
    let below : ¬ HasNoCallLeft p = (λ limit. absurd (true≢false (sym (c.is_spent.ensures.1 limit) ∙ c.if-is_spent.false))) in
    once_lost p c.enqueue_free.new.pass u (walks_begin p.view u (at_current c.begin_current-place.result) c.requires.1 c.begin_current-place.ensures.lawful c.begin_current-place.ensures.begun) (c.enqueue_free.ensures.same ∙ c.begin_current-place.ensures.same) c.caller-caller.ensures.own below c.in-Lost.ensures.told

pub returns-in-Full-clause-told : goal.returns-in-Full-clause-told
returns-in-Full-clause-told c =
    let p = c.args.pass.now in let u = c.begin_current-place.new.pass.view in
    let below : ¬ HasNoCallLeft p = (λ limit. absurd (true≢false (sym (c.is_spent.ensures.1 limit) ∙ c.if-is_spent.false))) in
    once_turned p c.enqueue_with_turn.new.pass u c.enqueue_free.new.pass.view (walks_begin p.view u (at_current c.begin_current-place.result) c.requires.1 c.begin_current-place.ensures.lawful c.begin_current-place.ensures.begun) c.in-Full.ensures.told
    (c.enqueue_with_turn.ensures.same ∙ (c.enqueue_free.ensures.same ∙ c.begin_current-place.ensures.same)) c.caller-caller.ensures.own below c.args.value c.enqueue_with_turn.result c.enqueue_with_turn.ensures.told
