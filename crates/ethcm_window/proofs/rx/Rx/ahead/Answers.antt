use Rattle.ethcm_window.proofs.Keeping.{rises_from_expected}
use Rattle.ethcm_window.proofs.rx.Rx.ahead.Goals as goal

pub first_of-requires-clause-rising : goal.first_of-requires-clause-rising
first_of-requires-clause-rising c = rises_from_expected _ _ c.self.invariant.order
