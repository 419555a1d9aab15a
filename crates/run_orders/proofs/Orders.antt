-- THE ORDER OF THE STEPS' MAKERS DECIDES A RUN of a script, which is within its limits.
use Rattle.run_orders.specs.Laws.{OrdersDecide}
use Rattle.run_orders.proofs.FixedOrder.{ended-same, filled-same, none-both}
use Rattle.run_orders.proofs.Makers.{makers_decide}

pub orders_decide : OrdersDecide
orders_decide = record {
  runs = λ script one two first. makers_decide script first.declared one two first;
  ended = λ script one two first. ended-same script first.so_far.declared one two first;
  filled = λ script one two first. filled-same script first.so_far.declared one two first;
  apart = λ script one two ended. none-both script ended.so_far.declared one two ended;
}
