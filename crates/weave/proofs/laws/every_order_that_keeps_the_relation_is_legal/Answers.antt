use Rattle.weave.proofs.Orders.{orders_are_histories}
use Rattle.weave.proofs.laws.every_order_that_keeps_the_relation_is_legal.Goals as goal

pub returns : goal.returns
returns c = orders_are_histories
