-- What a tally of a range gives, and that of two parts of it.
use Rattle.std.specs.Prelude.{ℕ, ◌≡◌, ◌+◌, List, Result, Ok, Err}
use Rattle.order_lines.specs.Faults.{IsBadOf}
use Rattle.order_lines.specs.Fronts.{ordered_of}
use Rattle.outcome_tally.specs.Few.{IsFew}
use Rattle.outcome_tally.specs.Tallies.{joined}
use Rattle.outcome_tally.specs.TallyParts.{TallyParts}
use Rattle.script_lang.specs.declared.script_error.ScriptError.{ScriptError}
use Rattle.script_lang.specs.declared.script_error.ScriptError.TheVariants.{NoMemory}
use Rattle.seed_report.specs.Reports.{IsTallied}

-- WHAT A TALLY of a seed and so many behind it GIVES: it, or why there is none
abbrev pub Tallies : List ℕ → ℕ → ℕ → ℕ → Result TallyParts ScriptError → Type 0
Tallies bytes actors first more (Ok tally) =
    IsTallied bytes actors first (first + more + 1) tally
Tallies bytes actors first more (Err error) = IsBadOf (ordered_of bytes) error

-- there is room for the runs of both parts of a range
abbrev pub HaveRoom : Result TallyParts ScriptError → Result TallyParts ScriptError → Type 0
HaveRoom (Ok tally) (Ok later) = IsFew (joined tally later)
HaveRoom (Ok tally) (Err error) = Unit {0}
HaveRoom (Err error) behind = Unit {0}

-- the tally of the front of a range is joined with that of what is behind it, or memory is refused;
-- and where one of them is missing, so is that of both, for the same reason
abbrev pub IsOfBoth : Result TallyParts ScriptError → Result TallyParts ScriptError
    → Result TallyParts ScriptError → Type 0
IsOfBoth (Ok tally) (Ok later) (Ok all) = all ≡ joined tally later
IsOfBoth (Ok tally) (Ok later) (Err error) = error ≡ NoMemory
IsOfBoth (Ok tally) (Err error) result = result ≡ Err error
IsOfBoth (Err error) behind result = result ≡ Err error
