use Rattle.trunk.proofs.EachEvent.Trunks.{promises, trunk_record}
use Rattle.trunk.proofs.trunk.Trunk.promises.Goals as goal

pub returns-clause-records : goal.returns-clause-records
returns-clause-records c =
    rw (← c.self.view_is) (trunk_record c.self.inside.parts.is c.self.invariant.1)

pub returns-clause-promises : goal.returns-clause-promises
returns-clause-promises c =
    rw (← c.self.view_is) (promises c.self.inside.parts.is c.self.invariant.1)

pub returns-clause-promised : goal.returns-clause-promised
returns-clause-promised c =
    rw (← c.self.view_is) (promises c.self.inside.parts.was c.self.invariant.0)
