use Rattle.std.proofs.Common.{◌∙◌, sym}
use Rattle.trunk.proofs.EachEvent.Quiet.{quiet}
use Rattle.trunk.proofs.trunk.Trunk.quiet.Goals as goal

pub returns-clause-complete : goal.returns-clause-complete
returns-clause-complete c =
    λ is. rw (← c.self.view_is)
    (quiet c.self.inside.parts.is c.self.invariant.1 (sym c.is_quiet.ensures ∙ is))
