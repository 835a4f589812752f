use Rattle.std.proofs.Common.{refl, subst}
use Rattle.concurrent_queue.specs.Passes.{TurnQueueView, turn_view}
use Rattle.concurrent_queue.specs.Telling.{Told}
use Rattle.concurrent_queue.proofs.Behind.{told}
use Rattle.concurrent_queue.proofs.turn_queue.TurnQueue.call.Goals as goal

pub returns : goal.returns
returns g c =
    let before = turn_view c.pass.inside.pass in
    let after = turn_view c.call.new.pass in
    subst (λ (p : TurnQueueView). Told p c.args.call after c.call.result) c.pass.view_is (told before after c.args.call c.call.ensures.pass refl c.call.result c.call.ensures.called)
