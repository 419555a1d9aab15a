-- Whom an order names is one of those that are ready.
use Rattle.std.proofs.Common.{◌≡◌, ℕ, ◌<◌, Bool, true, false, List, [], ◌∷◌, length, refl, get_or}
use Rattle.std.proofs.Common.{arith, ◌%◌, ◌==◌, ◌||◌, ◌-◌, nat_lt, if◌then◌else◌, eq-eqb}
use Rattle.std.proofs.lemmas.List.Folds.{list_any_at}
use Rattle.rand_xoshiro.specs.SplitMix64.{mix_u64}
use Rattle.order_rules.specs.Dice.{below}
use Rattle.order_rules.specs.Orders.{Named, named}
use Rattle.order_rules.specs.Rules.{behind, by_rule, first_of, is_among, lowest_of, ranked, speed}
use Rattle.order_rules.specs.Rules.{speeds, thrown, thrown_anew, with_place}
use Rattle.order_rules.specs.declared.bursts.Bursts.{Bursts}
use Rattle.order_rules.specs.declared.rule.Rule.{Rule}
use Rattle.order_rules.specs.declared.rule.Rule.TheVariants as rules

-- each of some makers is one of all
abbrev IsWithin : List ℕ → List ℕ → Type 0
IsWithin some all = (m : ℕ) → is_among m some ≡ true → is_among m all ≡ true

or-later : (b c : Bool) → c ≡ true → (b || c) ≡ true
or-later true c is = refl
or-later false c is = is

head-among : (m : ℕ) (rest all : List ℕ) → IsWithin (m ∷ rest) all → is_among m all ≡ true
head-among m rest all within = within m (rw (eq-eqb m m refl) refl)

tail-within : (m : ℕ) (rest all : List ℕ) → IsWithin (m ∷ rest) all → IsWithin rest all
tail-within m rest all within = λ k is. within k (or-later (m == k) (is_among k rest) is)

pub at-among : (some : List ℕ) (k : ℕ) → k < length some → is_among (get_or some k 0) some ≡ true
at-among some k less =
    list_any_at (λ n. n == get_or some k 0) some k 0 less (eq-eqb (get_or some k 0) (get_or some k 0) refl)

thrown-among : (dice : ℕ) (some : List ℕ) → 0 < length some
    → is_among (thrown dice some).0 some ≡ true
unfolding thrown below
thrown-among dice some less =
    at-among some ((mix_u64 dice).0 % length some) (omega (arith, less))

module _ (all : List ℕ) where
  if-among : (b : Bool) (m k : ℕ) → is_among m all ≡ true → is_among k all ≡ true
      → is_among (if b then m else k) all ≡ true
  if-among true m k first second = first
  if-among false m k first second = second

  behind-among : (last first : ℕ) (some : List ℕ) → IsWithin some all → is_among first all ≡ true
      → is_among (behind last first some) all ≡ true
  behind-among last first [] within is = is
  behind-among last first (m ∷ rest) within is =
      if-among (nat_lt last m) m (behind last first rest) (head-among m rest all within)
      (behind-among last first rest (tail-within m rest all within) is)

  place-among : (words : List ℕ) (first place : ℕ) (some : List ℕ) → IsWithin some all
      → is_among first all ≡ true → is_among (with_place words first place some) all ≡ true
  place-among words first place [] within is = is
  place-among words first place (m ∷ rest) within is =
      if-among (nat_lt place (speed words m)) m (with_place words first (place - speed words m) rest)
      (head-among m rest all within)
      (place-among words first (place - speed words m) rest (tail-within m rest all within) is)

  lowest-among : (ranks : List ℕ) (best : ℕ) (some : List ℕ) → IsWithin some all
      → is_among best all ≡ true → is_among (lowest_of ranks best some) all ≡ true
  lowest-among ranks best [] within is = is
  lowest-among ranks best (m ∷ rest) within is =
      let lower : Bool = nat_lt (get_or ranks m 0) (get_or ranks best 0) in
      lowest-among ranks (if lower then m else best) rest (tail-within m rest all within)
      (if-among lower m best (head-among m rest all within) is)

same-within : (some : List ℕ) → IsWithin some some
same-within some = λ m is. is

-- WHOM A RULE NAMES
pub rule-among : (rule : Rule) (some : List ℕ) → 0 < length some
    → is_among (by_rule rule some).0 some ≡ true
rule-among (rules.Rounds last) some less =
    behind-among some last (first_of some) some (same-within some) (at-among some 0 less)
rule-among (rules.Walk dice) some less = thrown-among dice some less
rule-among (rules.Bursts b) some less =
    let anew : Bursts = thrown_anew b some in
    place-among some anew.words (first_of some) (below (speeds anew.words some) anew.dice).0 some
    (same-within some) (at-among some 0 less)
rule-among (rules.Priorities p) some less =
    lowest-among some (ranked p some) (first_of some) some (same-within some) (at-among some 0 less)

named-if : (b : Bool) (m : ℕ) (first after : Named) (some : List ℕ) → first.maker ≡ m
    → is_among m some ≡ b → is_among after.maker some ≡ true
    → is_among (if b then first else after).maker some ≡ true
named-if true m first after some same is later =
    rw same is
named-if false m first after some same is later = later

-- WHOM AN ORDER NAMES
pub named-among : (left : List ℕ) (rule : Rule) (some : List ℕ) → 0 < length some
    → is_among (named left rule some).maker some ≡ true
named-among [] rule some less = rule-among rule some less
named-among (m ∷ left) rule some less =
    named-if (is_among m some) m
    (record { maker = m; order = record { left = left; rule = rule } }) (named left rule some) some
    refl refl (named-among left rule some less)
