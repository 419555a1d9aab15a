-- WHICH RULE A NUMBER IS.
use Rattle.std.specs.Prelude.{ℕ, zero, suc, ◌+◌, ◌/◌, ◌%◌, ◌^◌, ◌==◌, List, replicate}
use Rattle.std.specs.Prelude.{slice_set, if◌then◌else◌}
use Rattle.order_rules.specs.Dice.{below, words}
use Rattle.order_rules.specs.declared.rule.Rule.{Rule}
use Rattle.order_rules.specs.declared.rule.Rule.TheVariants as rules

-- the rule of bursts, with words and a die from which the speeds are thrown
abbrev pub bursts : List ℕ × ℕ → Rule
bursts it = rules.Bursts (record { dice = it.1; words = it.0 })

-- a table with the next turn that a die throws at this place, one of the first so many
abbrev pub with_change : ℕ → ℕ → List ℕ × ℕ → List ℕ × ℕ
with_change span place it =
    (slice_set it.0 place (2 ^ 32 + (below span it.1).0), (below span it.1).1)

-- a table of five places, with turns at the first so many, and the die after them; zero is no turn
unfoldable pub changes : ℕ → ℕ → ℕ → List ℕ × ℕ
changes span zero dice = (replicate 5 0, dice)
changes span (suc n) dice = with_change span n (changes span n dice)

-- the rule of priorities, with these ranks, and so many turns of the first so many at which they
-- change
abbrev pub priorities : ℕ → ℕ → List ℕ × ℕ → Rule
priorities depth span it = rules.Priorities (record {
  ranks = it.0;
  changes = (changes span depth it.1).0;
  turn = 2 ^ 32;
})

-- WHICH RULE A NUMBER IS: bursts, a walk or priorities, by its rest by 3; priorities change at none
-- to five of the first so many turns, by the rest by 6 of the third of it
abbrev pub rule_of : ℕ → ℕ → Rule
rule_of span seed =
    if seed % 3 == 1
    then rules.Walk seed
    else if seed % 3 == 2
    then priorities (seed / 3 % 6) span (words 97 seed)
    else bursts (words 97 seed)
