use Rattle.ethcm_window.proofs.Keeping.{rises_from_expected, rises_taken}
use Rattle.ethcm_window.proofs.rx.Rx.pass.Goals as goal

pub gone_past-self-inside-requires-clause-rising : goal.gone_past-self-inside-requires-clause-rising
gone_past-self-inside-requires-clause-rising c = rises_from_expected _ _ c.self.invariant.order

pub invariant_of-self : goal.invariant_of-self
invariant_of-self c =
    record {
      gone_within = c.gone_past-self-inside.ensures.within;
      order = rw c.gone_past-self-inside.ensures.rest (rises_taken _ _ c.self.invariant.order);
      old_order = c.self.invariant.old_order;
    }
