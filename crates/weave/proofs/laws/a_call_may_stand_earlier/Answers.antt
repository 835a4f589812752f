use Rattle.weave.proofs.Orders.{calls_pull_forward}
use Rattle.weave.proofs.laws.a_call_may_stand_earlier.Goals as goal

pub returns : goal.returns
returns c = calls_pull_forward
