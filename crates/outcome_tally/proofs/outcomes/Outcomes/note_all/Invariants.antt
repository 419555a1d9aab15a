use Rattle.std.proofs.Common.{◌≡◌}
use Rattle.outcome_tally.specs.Entries.{outcomes_in}
use Rattle.outcome_tally.specs.Outcomes.{with_all}
use Rattle.outcome_tally.proofs.outcomes.Outcomes.note_all.Given as goal

-- those so far are noted, and then the rest
abbrev pub invariant-later : goal.invariant-later
invariant-later l = with_all l.self (outcomes_in l.text-iterator) ≡ with_all l.fn.self l.fn.later
