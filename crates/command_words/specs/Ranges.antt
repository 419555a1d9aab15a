-- Ranges of numbers.
use Rattle.std.specs.Prelude.{ℕ, ◌-◌, ◌||◌, List, nat_le, nat_lt, Option, Some, None, option_and_then}
use Rattle.std.specs.Prelude.{if◌then◌else◌}
use Rattle.script_words.specs.Numbers.{number_spelled}
use Rattle.command_words.specs.declared.range.Range.{Range}

-- a range of at most a million numbers
abbrev pub range_over : ℕ → ℕ → Option Range
range_over first last =
    if nat_lt last first || nat_le 1000000 (last - first)
    then None
    else Some (record { first = first; more = last - first })

-- the range that two texts spell
abbrev pub ranged : List ℕ → List ℕ → Option Range
ranged from to = option_and_then (λ first.
    option_and_then (λ last. range_over first last) (number_spelled to)) (number_spelled from)
