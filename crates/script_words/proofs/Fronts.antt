-- words read one after the other, as a loop does
use Rattle.std.proofs.Common.{List, ◌++◌, Result, Ok}
use Rattle.script_words.specs.declared.fault.Fault.{Fault}
use Rattle.script_words.specs.Gives.{◌>>=◌}

-- what was read before, and what is still read
abbrev pub with_front : {A : Type 0} → List A → Result (List A) Fault → Result (List A) Fault
with_front front reading = reading >>= λ rest. Ok (front ++ rest)
