-- WHOM A RULE NAMES of the makers that are ready, which are given by their numbers, and the rule
-- after it.
use Rattle.std.specs.Prelude.{ℕ, ◌+◌, ◌-◌, ◌%◌, ◌^◌, ◌==◌, Bool, List, [], ◌∷◌, length}
use Rattle.std.specs.Prelude.{nat_lt, slice_index_or, slice_set, if◌then◌else◌}
use Rattle.std.specs.List.{list_any}
use Rattle.order_rules.specs.Dice.{below, word}
use Rattle.order_rules.specs.declared.bursts.Bursts.{Bursts}
use Rattle.order_rules.specs.declared.priorities.Priorities.{Priorities}
use Rattle.order_rules.specs.declared.rule.Rule.{Rule}
use Rattle.order_rules.specs.declared.rule.Rule.TheVariants as rules

-- a maker is one of these
abbrev pub is_among : ℕ → List ℕ → Bool
is_among m some = list_any (λ n. n == m) some

-- the first of these makers
abbrev pub first_of : List ℕ → ℕ
first_of some = slice_index_or some 0 0

-- ---- rounds

-- the first of these makers whose number is above that of the last, or else this one
abbrev pub behind : ℕ → ℕ → List ℕ → ℕ
behind last first [] = first
behind last first (m ∷ rest) = if nat_lt last m then m else behind last first rest

-- whom rounds name: the first one behind the last that took a turn, or else the first one
abbrev pub next_round : ℕ → List ℕ → ℕ
next_round last some = behind last (first_of some) some

-- ---- a walk

-- the one at the place that a die throws, and the die after it
unfoldable pub thrown : ℕ → List ℕ → ℕ × ℕ
thrown dice some =
    (slice_index_or some (below (length some) dice).0 0, (below (length some) dice).1)

-- ---- bursts

-- the speed of a maker, by its word: 1, 4, 16, 64, 256 or 1,024
abbrev pub speed : List ℕ → ℕ → ℕ
speed words m = 4 ^ (slice_index_or words m 0 % 6)

-- the speeds of these makers together
abbrev pub speeds : List ℕ → List ℕ → ℕ
speeds words [] = 0
speeds words (m ∷ rest) = speed words m + speeds words rest

-- the maker to whom this place belongs, where each of these makers has as many places as its speed
-- is, one behind the other; or else this one
abbrev pub with_place : List ℕ → ℕ → ℕ → List ℕ → ℕ
with_place words first place [] = first
with_place words first place (m ∷ rest) =
    if nat_lt place (speed words m)
    then m
    else with_place words first (place - speed words m) rest

-- one maker has a new word
abbrev pub with_word : List ℕ → ℕ × ℕ → Bursts
with_word words at = record { dice = (word at.1).1; words = slice_set words at.0 (word at.1).0 }

-- before one turn of sixteen one of those that are ready throws a new speed
abbrev pub thrown_anew : Bursts → List ℕ → Bursts
thrown_anew b some =
    if (below 16 b.dice).0 == 0
    then with_word b.words (thrown (below 16 b.dice).1 some)
    else record { dice = (below 16 b.dice).1; words = b.words }

-- whom bursts name: one that a die throws, by their speeds
abbrev pub by_speeds : Bursts → List ℕ → ℕ × Bursts
by_speeds b some = (
  with_place b.words (first_of some) (below (speeds b.words some) b.dice).0 some,
  record { dice = (below (speeds b.words some) b.dice).1; words = b.words },
)

-- ---- priorities

-- the maker of the lowest rank, of this one and these; of those with one rank it is the first
abbrev pub lowest_of : List ℕ → ℕ → List ℕ → ℕ
lowest_of ranks best [] = best
lowest_of ranks best (m ∷ rest) =
    lowest_of ranks (if nat_lt (slice_index_or ranks m 0) (slice_index_or ranks best 0) then m else best) rest

-- the one of the lowest rank of those that are ready
abbrev pub lowest : List ℕ → List ℕ → ℕ
lowest ranks some = lowest_of ranks (first_of some) some

-- the ranks change at this turn
abbrev pub is_change : Priorities → Bool
is_change p = list_any (λ n. n == p.turn) p.changes

-- the ranks at a turn: where they change the one of the lowest rank gets the highest one
abbrev pub ranked : Priorities → List ℕ → List ℕ
ranked p some =
    if is_change p then slice_set p.ranks (lowest p.ranks some) p.turn else p.ranks

-- whom priorities name: the one of the lowest rank, once the ranks have changed
abbrev pub by_ranks : Priorities → List ℕ → ℕ × Priorities
by_ranks p some = (
  lowest (ranked p some) some,
  record { ranks = ranked p some; changes = p.changes; turn = (p.turn + 1) % 2 ^ 64 },
)

-- ---- each of them

-- a maker, and a rule of this kind
abbrev pub named_as : {X : Type 0} → (X → Rule) → ℕ × X → ℕ × Rule
named_as kind named = (named.0, kind named.1)

-- WHOM A RULE NAMES, and the rule after it
abbrev pub by_rule : Rule → List ℕ → ℕ × Rule
by_rule (rules.Rounds last) some = (next_round last some, rules.Rounds (next_round last some))
by_rule (rules.Walk dice) some = named_as rules.Walk (thrown dice some)
by_rule (rules.Bursts b) some = named_as rules.Bursts (by_speeds (thrown_anew b some) some)
by_rule (rules.Priorities p) some = named_as rules.Priorities (by_ranks p some)
