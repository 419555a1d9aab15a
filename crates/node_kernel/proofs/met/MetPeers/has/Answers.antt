use Rattle.std.proofs.Common.{◌∙◌}
use Rattle.std.specs.List.{list_any}
use Rattle.node_kernel.proofs.met.MetPeers.has.Goals as goal

pub returns : goal.returns
returns c =
    rw (← c.self.view_is) (c.has.ensures
    ∙ (λ i. list_any (λ m. c.peer_key.ensures.finds m i) c.self.inside.peers))
