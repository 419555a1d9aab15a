-- HOW OFTEN SOMETHING CAME.
use Rattle.std.specs.Prelude.{ℕ, ◌+◌, Bool, None, Some, unwrap_or, if◌then◌else◌}
use Rattle.std.specs.Option.{option_or}
use Rattle.outcome_tally.specs.declared.times.Times.{Times}

-- nothing came, in no run
abbrev pub never : Times
never = record { runs = 0; first = None }

-- what came so often came once more, in the run of this seed
abbrev pub once_more : Times → ℕ → Times
once_more t seed = record { runs = t.runs + 1; first = Some (unwrap_or t.first seed) }

-- what came so often came once more in the run of this seed, if it came there
abbrev pub noted : Times → Bool → ℕ → Times
noted t came seed = if came then once_more t seed else t

-- what came so often in some runs came so often in later ones too
abbrev pub and_later : Times → Times → Times
and_later t later = record { runs = t.runs + later.runs; first = option_or t.first later.first }
