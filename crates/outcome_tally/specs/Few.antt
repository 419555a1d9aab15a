-- THAT NO MORE RUNS WERE COUNTED THAN NUMBERS HAVE ROOM FOR.
use Rattle.std.specs.Prelude.{ℕ, ◌<◌, ◌^◌, All, List}
use Rattle.outcome_tally.specs.OutcomeParts.{OutcomeParts}
use Rattle.outcome_tally.specs.TallyParts.{TallyParts}
use Rattle.outcome_tally.specs.declared.rare_times.RareTimes.{RareTimes}

-- each of the rare things came in less than 2 ^ 63 runs
pub record RaresFew (t : RareTimes) : Type 0 where
  pub refused : t.refused.runs < 2 ^ 63
  pub found_none : t.found_none.runs < 2 ^ 63
  pub dead : t.dead.runs < 2 ^ 63
  pub closed : t.closed.runs < 2 ^ 63
  pub lost : t.lost.runs < 2 ^ 63
  pub down : t.down.runs < 2 ^ 63

-- each of these outcomes came in less than 2 ^ 63 runs
abbrev pub AllFew : List OutcomeParts → Type 0
AllFew came = All (λ o. o.times.runs < 2 ^ 63) came

-- a tally has less than 2 ^ 63 runs, and nothing in it came more often
pub record IsFew (t : TallyParts) : Type 0 where
  pub runs : t.runs < 2 ^ 63
  pub full : t.full.runs < 2 ^ 63
  pub came : AllFew t.came
  pub rares : RaresFew t.rares
