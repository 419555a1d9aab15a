use Rattle.std.proofs.Common.{◌≡◌, drop}
use Rattle.link_tables.specs.Sides.{pair_past}
use Rattle.link_tables.proofs.side.pair_past.Given as goal

-- the rest makes of it what all make
abbrev pub invariant-loop-effect : goal.invariant-loop-effect
invariant-loop-effect l =
    pair_past l.node.0 l.link.0 l.pair (drop l.effect-index l.effects)
    ≡ pair_past l.node.0 l.link.0 l.fn.before l.effects
