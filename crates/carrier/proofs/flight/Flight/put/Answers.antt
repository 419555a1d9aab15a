use Rattle.carrier.proofs.Spelled.{put_spelled}
use Rattle.carrier.proofs.flight.Flight.put.Goals as goal

pub invariant_of-self : goal.invariant_of-self
invariant_of-self c = (
  rw c.put.ensures.was c.self.invariant.0,
  put_spelled c.put.result _ _ _ c.self.invariant.1 c.requires c.put.ensures.ok c.put.ensures.err,
)
