use Rattle.std.proofs.Common.{◌≡◌, drop}
use Rattle.journal.specs.Sessions.{session_past}
use Rattle.link_tables.proofs.side.session_past.Given as goal

-- the rest makes of it what all make
abbrev pub invariant-loop-effect : goal.invariant-loop-effect
invariant-loop-effect l =
    session_past l.node.0 l.link.0 l.up (drop l.effect-index l.effects)
    ≡ session_past l.node.0 l.link.0 l.fn.before l.effects
