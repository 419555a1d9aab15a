-- WHICH OUTCOMES CAME MOST OFTEN.
use Rattle.std.specs.Prelude.{ℕ, zero, suc, nat_lt, List, [], ◌∷◌, insert, take, if◌then◌else◌}
use Rattle.outcome_tally.specs.OutcomeParts.{OutcomeParts}

-- the place of an outcome among these: before the first that came less often, or behind them all
abbrev pub place_for : List OutcomeParts → OutcomeParts → ℕ
place_for [] o = 0
place_for (before ∷ rest) o =
    if nat_lt before.times.runs o.times.runs then 0 else suc (place_for rest o)

-- the sixteen first of these and of one more
abbrev pub with_ranked : List OutcomeParts → OutcomeParts → List OutcomeParts
with_ranked ranked o = take 16 (insert ranked (place_for ranked o) o)

-- the sixteen first of some outcomes and of further ones
abbrev pub ranked_with : List OutcomeParts → List OutcomeParts → List OutcomeParts
ranked_with ranked [] = ranked
ranked_with ranked (o ∷ rest) = ranked_with (with_ranked ranked o) rest

-- THE SIXTEEN OUTCOMES THAT CAME MOST OFTEN; of those that came as often, the ones that came first
abbrev pub most_of : List OutcomeParts → List OutcomeParts
most_of came = ranked_with [] came
