use Rattle.std.proofs.Common.{◌≡◌, ◌++◌, length}
use Rattle.carrier.specs.Events.{drained}
use Rattle.carrier.proofs.half.send_all.Given as goal

-- what went out and what is left are all, and what was stays
abbrev pub invariant-sending : goal.invariant-sending
invariant-sending l =
    (l.out.is ++ l.end.is.out ≡ l.fn.out.is ++ l.fn.end.is.out)
    × ((drained l.end.is ≡ drained l.fn.end.is)
    × ((l.end.was ≡ l.fn.end.was) × (l.out.was ≡ l.fn.out.was)))

abbrev pub decreases-sending : goal.decreases-sending
decreases-sending l = length l.end.is.out
