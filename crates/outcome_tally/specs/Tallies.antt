-- WHAT CAME OF SOME RUNS, as they are added one after another.
use Rattle.std.specs.Prelude.{ℕ, ◌+◌, List, [], ◌∷◌, Option, None, Some}
use Rattle.run_outcomes.specs.SeenParts.{SeenParts}
use Rattle.outcome_tally.specs.Outcomes.{with_all, with_outcome}
use Rattle.outcome_tally.specs.RareTimes.{and_rares, no_rares, with_rares}
use Rattle.outcome_tally.specs.Spans.{both_spanned, spanned}
use Rattle.outcome_tally.specs.TallyParts.{TallyParts}
use Rattle.outcome_tally.specs.Times.{and_later, never, once_more}

-- the tally of no run
abbrev pub no_runs : TallyParts
no_runs = record { runs = 0; full = never; steps = None; came = []; rares = no_rares }

-- the tally with the run of one seed more, whose journal was full before its end
abbrev pub with_full : TallyParts → ℕ → TallyParts
with_full t seed = record {
  runs = t.runs + 1;
  full = once_more t.full seed;
  steps = t.steps;
  came = t.came;
  rares = t.rares;
}

-- the tally with the whole run of one seed more, of which this is seen
abbrev pub with_seen : TallyParts → ℕ → SeenParts → TallyParts
with_seen t seed seen = record {
  runs = t.runs + 1;
  full = t.full;
  steps = Some (spanned t.steps seen.steps);
  came = with_outcome t.came seen.outcome seed;
  rares = with_rares t.rares seen.rares seed;
}

-- the run of a seed: what is seen of it where it is whole, and nothing where its journal was full
-- before its end
pub record Ran : Type 0 where
  pub seed : ℕ
  pub seen : Option SeenParts

-- the tally with the run of one seed more
abbrev pub with_came : TallyParts → ℕ → Option SeenParts → TallyParts
with_came t seed None = with_full t seed
with_came t seed (Some seen) = with_seen t seed seen

-- THE TALLY of these runs, of which the last one stands first
abbrev pub tally_of : List Ran → TallyParts
tally_of [] = no_runs
tally_of (r ∷ before) = with_came (tally_of before) r.seed r.seen

-- THE TALLY OF SOME RUNS, JOINED WITH THAT OF LATER ONES
abbrev pub joined : TallyParts → TallyParts → TallyParts
joined t later = record {
  runs = t.runs + later.runs;
  full = and_later t.full later.full;
  steps = both_spanned t.steps later.steps;
  came = with_all t.came later.came;
  rares = and_rares t.rares later.rares;
}
