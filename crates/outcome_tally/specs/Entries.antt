-- The outcomes as they are kept: entries of a map, by their texts.
use Rattle.std.specs.Prelude.{ℕ, List, map}
use Rattle.std.specs.Global.{Vec}
use Rattle.outcome_tally.specs.OutcomeParts.{OutcomeParts}
use Rattle.outcome_tally.specs.declared.times.Times.{Times}

-- an entry of the map as an outcome: its text, and how often it came
abbrev pub outcome_in : Vec ℕ × Times → OutcomeParts
outcome_in entry = record { text = entry.0.items; times = entry.1 }

-- the entries of the map as outcomes, in order
abbrev pub outcomes_in : List (Vec ℕ × Times) → List OutcomeParts
outcomes_in entries = map outcome_in entries
