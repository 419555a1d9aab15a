use Rattle.std.proofs.Common.{◌≡◌, map, take}
use Rattle.linx_base.specs.Both.{still}
use Rattle.linx_base.specs.declared.frame.LinkDecl.{LinkDecl}
use Rattle.trunk.specs.Events.{new_trunk}
use Rattle.run_trunks.proofs.run_trunks.trunks_over.Given as goal

-- the trunks of the links so far
abbrev pub invariant-loop-link : goal.invariant-loop-link
invariant-loop-link l =
    l.trunks.items ≡ map (λ (link : LinkDecl). still (new_trunk link.window link.piece))
    (take l.link-index l.links)
