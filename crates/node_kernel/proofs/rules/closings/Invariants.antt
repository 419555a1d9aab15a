use Rattle.std.proofs.Common.{◌≡◌, map, take}
use Rattle.journal.specs.declared.effect.Effect.TheVariants.{Closed}
use Rattle.node_kernel.proofs.rules.closings.Given as goal

-- the endpoints so far are closed
abbrev pub invariant-loop-endpoint : goal.invariant-loop-endpoint
invariant-loop-endpoint l =
    l.effects ≡ map (λ e. Closed e.inc) (take l.endpoint-index l.endpoints)
