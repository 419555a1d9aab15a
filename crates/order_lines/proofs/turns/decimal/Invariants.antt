use Rattle.std.proofs.Common.{◌≡◌, ◌<◌, ◌^◌, take, List, ℕ}
use Rattle.script_words.specs.Numbers.{decimal_of}
use Rattle.order_lines.proofs.turns.decimal.Given as goal

-- the value of the digits so far, which has no more digits than they
pub record SoFar (digits : List ℕ) (count value : ℕ) : Type 0 where
  pub is : value ≡ decimal_of (take count digits)
  pub small : value < 10 ^ count

abbrev pub invariant-digits : goal.invariant-digits
invariant-digits l = SoFar l.digits l.digit-index l.value
