use Rattle.std.proofs.Common.{◌∙◌}
use Rattle.node_kernel.proofs.Keeping.{first_found}
use Rattle.node_kernel.proofs.roster.Roster.first.Goals as goal

pub returns : goal.returns
returns c =
    rw (← c.self.view_is) (c.first.ensures ∙ first_found c.self.inside.node c.self.inside.openings
    c.self.inside.endpoints.items c.self.inside.names c.self.invariant c.args.name.now)
