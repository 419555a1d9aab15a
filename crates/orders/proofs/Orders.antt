-- AN ORDER DECIDES A RUN.
use Rattle.orders.specs.Laws.{OrderDecides}
use Rattle.orders.proofs.Ended.{decided}
use Rattle.orders.proofs.Listed.{again_told}
use Rattle.orders.proofs.Replay.Runs.{replayed}
use Rattle.orders.proofs.Rounds.{fixed, stopped_fixed}
use Rattle.orders.proofs.Stopped.{apart, filled}

pub order_decides : OrderDecides
order_decides = record {
  one = decided;
  filled = filled;
  apart = apart;
  again = again_told;
  replayed = replayed;
  fixed = fixed;
  stopped = stopped_fixed;
}
