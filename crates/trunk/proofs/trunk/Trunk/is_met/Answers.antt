use Rattle.std.proofs.Common.{◌∙◌}
use Rattle.trunk.proofs.EachEvent.Trunks.{agree}
use Rattle.trunk.proofs.trunk.Trunk.is_met.Goals as goal

pub returns : goal.returns
returns c =
    rw (← c.self.view_is) (c.is_met.ensures
    ∙ (agree c.args.side c.self.inside.parts.is c.self.invariant.1).met c.args.inc)
