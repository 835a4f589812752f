use Rattle.std.proofs.Common.{subst}
use Rattle.turn_lock.specs.Passes.{LockPass}
use Rattle.concurrent_bag.specs.Answers.{Ends}
use Rattle.concurrent_bag.proofs.Behind.{ends}
use Rattle.concurrent_bag.proofs.turn_bag.TurnBag.call.Goals as goal

pub returns : goal.returns
returns g c =
    let pr = g.T.Item.priority_of in let mark = g.T.Item.mark in let after = c.call.new.pass in
    subst (λ (p : LockPass). Ends pr mark p after c.args.call c.call.result) c.pass.view_is (ends pr mark c.pass.inside.pass after c.args.call c.call.ensures.pass c.call.result c.call.ensures.called)
