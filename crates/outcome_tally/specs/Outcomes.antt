-- THE OUTCOMES THAT CAME, in the order in which they came first.
use Rattle.std.specs.Prelude.{ℕ, List, [], ◌∷◌, if◌then◌else◌}
use Rattle.std.specs.Str.{bytes_eq}
use Rattle.outcome_tally.specs.OutcomeParts.{OutcomeParts}
use Rattle.outcome_tally.specs.Times.{and_later, never, once_more}
use Rattle.outcome_tally.specs.declared.times.Times.{Times}

-- how often an outcome came so far
abbrev pub times_of : List OutcomeParts → List ℕ → Times
times_of [] text = never
times_of (o ∷ rest) text = if bytes_eq text o.text then o.times else times_of rest text

-- an outcome that came once more, in the run of this seed
abbrev pub again : OutcomeParts → ℕ → OutcomeParts
again o seed = record { text = o.text; times = once_more o.times seed }

-- THE OUTCOMES, AND THAT OF ONE RUN MORE: once more, where it came before, or else behind them all
abbrev pub with_outcome : List OutcomeParts → List ℕ → ℕ → List OutcomeParts
with_outcome [] text seed = (record { text = text; times = once_more never seed }) ∷ []
with_outcome (o ∷ rest) text seed =
    if bytes_eq text o.text then again o seed ∷ rest else o ∷ with_outcome rest text seed

-- an outcome that came so often in later runs too
abbrev pub again_later : OutcomeParts → Times → OutcomeParts
again_later o times = record { text = o.text; times = and_later o.times times }

-- the outcomes, and one of later runs: as often more, where it came before, or else behind them all
abbrev pub with_later : List OutcomeParts → OutcomeParts → List OutcomeParts
with_later [] later = later ∷ []
with_later (o ∷ rest) later =
    if bytes_eq later.text o.text then again_later o later.times ∷ rest else o ∷ with_later rest later

-- THE OUTCOMES OF SOME RUNS, AND THOSE OF LATER ONES
abbrev pub with_all : List OutcomeParts → List OutcomeParts → List OutcomeParts
with_all came [] = came
with_all came (later ∷ rest) = with_all (with_later came later) rest
