use Rattle.run_orders.proofs.Orders.{orders_decide}
use Rattle.run_orders.proofs.laws.orders_decide.Goals as goal

pub returns : goal.returns
returns c = orders_decide
