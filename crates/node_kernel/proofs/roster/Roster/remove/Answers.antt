use Rattle.node_kernel.proofs.Keeping.{kept_without}
use Rattle.node_kernel.proofs.roster.Roster.remove.Goals as goal

pub invariant_of-self : goal.invariant_of-self
invariant_of-self c =
    rw (c.remove.ensures, c.remove-was_named.ensures.others)
    (kept_without c.self.inside.node c.self.inside.openings c.self.inside.endpoints.items
    c.self.inside.names c.self.invariant c.args.inc)
