use Rattle.std.specs.Prelude.{ℕ, Bool, true, not, ◌==◌, Contains}
use Rattle.std.specs.List.{list_any}
use Rattle.sigsel.specs.declared.sigsel.Sigsel.{Sigsel}
use Rattle.sigsel.specs.declared.sigsel.Sigsel.TheVariants.{Any, Only, Not}

-- the filter selects signals of this number
abbrev pub Selects : Sigsel → ℕ → Type 0
Selects Any number = Unit {0}
Selects (Only listed) number = Contains listed number
Selects (Not listed) number = ¬ (Contains listed number)

-- the test whether a filter selects signals of this number
abbrev pub selects : Sigsel → ℕ → Bool
selects Any number = true
selects (Only listed) number = list_any (λ n. n == number) listed
selects (Not listed) number = not (list_any (λ n. n == number) listed)
