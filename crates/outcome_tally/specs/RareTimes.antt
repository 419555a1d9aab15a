-- IN HOW MANY RUNS EACH OF THE RARE THINGS CAME.
use Rattle.std.specs.Prelude.{ℕ}
use Rattle.run_outcomes.specs.declared.rare.Rares.{Rares}
use Rattle.outcome_tally.specs.Times.{and_later, never, noted}
use Rattle.outcome_tally.specs.declared.rare_times.RareTimes.{RareTimes}

-- no rare thing came in any run
abbrev pub no_rares : RareTimes
no_rares = record {
  refused = never;
  found_none = never;
  dead = never;
  closed = never;
  lost = never;
  down = never;
}

-- how often each rare thing came, with the run of one seed more
abbrev pub with_rares : RareTimes → Rares → ℕ → RareTimes
with_rares t rares seed = record {
  refused = noted t.refused rares.refused seed;
  found_none = noted t.found_none rares.found_none seed;
  dead = noted t.dead rares.dead seed;
  closed = noted t.closed rares.closed seed;
  lost = noted t.lost rares.lost seed;
  down = noted t.down rares.down seed;
}

-- how often each rare thing came in some runs and in later ones
abbrev pub and_rares : RareTimes → RareTimes → RareTimes
and_rares t later = record {
  refused = and_later t.refused later.refused;
  found_none = and_later t.found_none later.found_none;
  dead = and_later t.dead later.dead;
  closed = and_later t.closed later.closed;
  lost = and_later t.lost later.lost;
  down = and_later t.down later.down;
}
