use Rattle.std.proofs.Common.{◌∙◌}
use Rattle.trunk.proofs.EachEvent.Trunks.{agree}
use Rattle.trunk.proofs.trunk.Trunk.is_published.Goals as goal

pub returns : goal.returns
returns c =
    rw (← c.self.view_is) (c.is_published.ensures
    ∙ (agree c.args.side c.self.inside.parts.is c.self.invariant.1).own c.args.inc)
