use Rattle.std.proofs.Common.{ℕ, ◌-◌, ◌≤◌, Result}
use Rattle.seed_threads.specs.Tallies.{Tallies}
use Rattle.seed_threads.proofs.totals.tally_in_waves.Given as goal

-- the tally of a front of the range
abbrev pub invariant-waves : goal.invariant-waves
invariant-waves g l = record {
  within : l.done ≤ l.more;
  some : 1 ≤ l.size;
  few : l.size ≤ 4096;
  tallied : Tallies l.bytes l.actors l.first l.done l.tally;
}

abbrev pub decreases-waves : goal.decreases-waves
decreases-waves g l = l.more - l.done
