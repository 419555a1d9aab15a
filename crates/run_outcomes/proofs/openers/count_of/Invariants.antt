use Rattle.std.proofs.Common.{◌≡◌, ◌==◌, ◌≤◌, take, count_by}
use Rattle.run_outcomes.proofs.openers.count_of.Given as goal

-- those of the actor so far, which are no more than all
abbrev pub invariant-loop-opener : goal.invariant-loop-opener
invariant-loop-opener l = record {
  is : l.count ≡ count_by (λ o. o.actor == l.actor) (take l.opener-index l.table);
  few : l.count ≤ l.opener-index;
}
