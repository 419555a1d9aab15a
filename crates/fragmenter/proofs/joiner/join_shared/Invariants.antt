use Rattle.std.proofs.Common.{◌≡◌, ◌++◌, ◌∷◌, [], ◌-◌, drop, length}
use Rattle.fragmenter.specs.Holding.{joined}
use Rattle.fragmenter.proofs.joiner.join_shared.Given as goal

-- the body so far has the bytes of the parts from a place on, and then those of the last one
abbrev pub invariant-loop-k : goal.invariant-loop-k
invariant-loop-k l = l.body ≡ joined (drop (length l.parts - l.k) l.parts ++ l.last ∷ [])
