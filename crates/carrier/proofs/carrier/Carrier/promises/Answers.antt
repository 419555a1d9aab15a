use Rattle.carrier.proofs.Promising.{promises}
use Rattle.carrier.proofs.carrier.Carrier.promises.Goals as goal

pub returns-clause-promises : goal.returns-clause-promises
returns-clause-promises c =
    rw (← c.self.view_is) (promises c.self.inside.link.is c.self.invariant.1)

pub returns-clause-promised : goal.returns-clause-promised
returns-clause-promised c =
    rw (← c.self.view_is) (promises c.self.inside.link.was c.self.invariant.0)
