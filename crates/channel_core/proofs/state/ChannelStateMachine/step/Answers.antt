use Rattle.std.proofs.Common.{arith}
use Rattle.channel_core.proofs.Entry.{step_from_answer}
use Rattle.channel_core.proofs.state.ChannelStateMachine.step.Goals as goal

pub returns-clause-entry : goal.returns-clause-entry
returns-clause-entry g c =
    let few = c.self.invariant.few in
    let caller = rw (← c.self.view_is) at c.requires.caller in
    rw (← c.self.view_is)
    (step_from_answer g.T.Item.priority_of _ _ _ _ _ _ _ c.self.invariant.waits (omega arith) c.in_ok-reply.ensures.ok)
