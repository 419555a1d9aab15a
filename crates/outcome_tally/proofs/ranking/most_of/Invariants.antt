use Rattle.std.proofs.Common.{◌≡◌}
use Rattle.outcome_tally.specs.Entries.{outcomes_in}
use Rattle.outcome_tally.specs.Ranking.{most_of, ranked_with}
use Rattle.outcome_tally.proofs.ranking.most_of.Given as goal

-- those so far are ranked, and then the rest
abbrev pub invariant-came : goal.invariant-came
invariant-came l =
    ranked_with l.ranked.items (outcomes_in l.text-iterator) ≡ most_of l.came
