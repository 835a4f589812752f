use Rattle.std.proofs.Common.{arith, refl}
use Rattle.priority_core.proofs.Entry.{priority_step}
use Rattle.priority_core.proofs.state.PriorityStateMachine.step.Goals as goal

pub returns-clause-entry : goal.returns-clause-entry
returns-clause-entry g c =
    let few = c.self.invariant.few in
    let caller = rw (← c.self.view_is) at c.requires.caller in
    rw (← c.self.view_is)
    (priority_step g.T.Item.priority_of _ _ _ _ _ _ (c.self.invariant.waits refl) (omega arith) c.in_ok-reply.ensures.ok)
