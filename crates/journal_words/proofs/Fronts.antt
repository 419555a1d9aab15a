-- Words read one after the other, as a loop does.
use Rattle.std.proofs.Common.{List, ◌++◌, Option, Some}
use Rattle.text_words.specs.Gives.{◌>>=◌}

-- what was read before, and what is still read
abbrev pub with_front : {A : Type 0} → List A → Option (List A) → Option (List A)
with_front front reading = reading >>= λ rest. Some (front ++ rest)
