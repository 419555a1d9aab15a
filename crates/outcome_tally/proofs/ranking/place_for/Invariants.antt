use Rattle.std.proofs.Common.{◌≡◌, ◌+◌, drop}
use Rattle.outcome_tally.specs.Ranking.{place_for}
use Rattle.outcome_tally.proofs.ranking.place_for.Given as goal

-- none so far came less often
abbrev pub invariant-loop-place : goal.invariant-loop-place
invariant-loop-place l =
    l.place + place_for (drop l.place l.ranked) l.outcome ≡ place_for l.ranked l.outcome
