use Rattle.std.proofs.Common.{◌≡◌, ◌<◌, ◌^◌, take, List, ℕ}
use Rattle.text_words.specs.Numbers.{decimal_of}
use Rattle.text_words.proofs.numbers.decimal.Given as goal

-- the value of the digits so far, which has no more digits than they
pub record SoFar (digits : List ℕ) (count value : ℕ) : Type 0 where
  pub is : value ≡ decimal_of (take count digits)
  pub small : value < 10 ^ count

abbrev pub invariant-loop-digit : goal.invariant-loop-digit
invariant-loop-digit l = SoFar l.digits l.digit-index l.value
