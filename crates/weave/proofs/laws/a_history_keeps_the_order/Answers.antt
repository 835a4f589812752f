use Rattle.weave.proofs.Orders.{later_do_not_go_before}
use Rattle.weave.proofs.laws.a_history_keeps_the_order.Goals as goal

pub returns : goal.returns
returns c = later_do_not_go_before
