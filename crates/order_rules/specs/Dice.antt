-- A DIE: SplitMix64, whose state is a number of 64 bits.
use Rattle.std.specs.Prelude.{ℕ, zero, suc, ◌/◌, ◌%◌, ◌^◌, List, replicate, slice_set}
use Rattle.rand_xoshiro.specs.SplitMix64.{mix_u64}

-- a number below this one, and the die after the throw
unfoldable pub below : ℕ → ℕ → ℕ × ℕ
below bound dice = ((mix_u64 dice).0 % bound, (mix_u64 dice).1)

-- a word of 32 bits, and the die after the throw
unfoldable pub word : ℕ → ℕ × ℕ
word dice = ((mix_u64 dice).0 / 2 ^ 32, (mix_u64 dice).1)

-- a table with the next word that a die throws at this place, and the die after the throw
abbrev pub with_next : ℕ → List ℕ × ℕ → List ℕ × ℕ
with_next place it = (slice_set it.0 place (word it.1).0, (word it.1).1)

-- a table of 97 places, with a word for each of the first so many, and the die after them
unfoldable pub words : ℕ → ℕ → List ℕ × ℕ
words zero dice = (replicate 97 0, dice)
words (suc n) dice = with_next n (words n dice)
