use Rattle.std.proofs.Common.{◌≡◌}
use Rattle.ethcm_window.proofs.Keeping.{rises_from_expected, rises_taken, counts_missing}
use Rattle.ethcm_window.proofs.rx.Rx.accept.Goals as goal
use Rattle.ethcm_window.proofs.rx.Rx.accept.Goals.{in-Ok, in-Err}

pub gone_past-self-inside-requires-clause-rising : goal.gone_past-self-inside-requires-clause-rising
gone_past-self-inside-requires-clause-rising c =
    let e : c.args.seq ≡ c.self.inside.expected = c.if-seq-self-2.true in
    rw e (rises_from_expected _ _ c.self.invariant.order)

pub invariant_of-self : goal.invariant_of-self
invariant_of-self c =
    let e : c.args.seq ≡ c.self.inside.expected = c.if-seq-self-2.true in
    let taken = rises_taken _ _ c.self.invariant.order in
    record {
      gone_within = c.gone_past-self-inside.ensures.within;
      order = rw (c.gone_past-self-inside.ensures.rest, e) taken;
      old_order = c.self.invariant.old_order;
    }

pub returns-clause-counted : goal.returns-clause-counted
returns-clause-counted c =
    let counts = counts_missing _ _ c.accept_early.ensures.in_order in
    elim c.match-accept_early.branch [
      | in-Ok w ↦ rw (w.result-is, w.in-Ok.ensures.count) counts
      | in-Err w ↦ rw w.result-is tt
    ]
