use Rattle.std.proofs.Common.{◌≡◌, drop}
use Rattle.link_tables.specs.Arrivals.{count_in, counts_past}
use Rattle.link_tables.proofs.arrivals.Arrivals.pass.Given as goal

-- with the effects that are left the counts are what they are with all
abbrev pub invariant-loop-effect : goal.invariant-loop-effect
invariant-loop-effect l =
    counts_past (drop l.effect-index l.effect-items) (count_in l.self)
    ≡ counts_past l.effect-items (count_in l.initial.self)
