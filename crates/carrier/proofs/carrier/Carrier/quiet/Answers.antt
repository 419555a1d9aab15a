use Rattle.std.proofs.Common.{◌∙◌, sym}
use Rattle.carrier.proofs.Delivering.{quiet_complete}
use Rattle.carrier.proofs.carrier.Carrier.quiet.Goals as goal

pub returns-clause-complete : goal.returns-clause-complete
returns-clause-complete c =
    λ quiet. rw (← c.self.view_is)
    (quiet_complete c.self.inside.link.is c.self.invariant.1 (sym c.is_quiet.ensures ∙ quiet))
