use Rattle.fabric.proofs.Standings.KernelAndStanding.{at-value, legal-seen, promises-seen, sees}
use Rattle.fabric.proofs.fabric.Fabric.journal.Goals as goal

pub returns-clause-legal : goal.returns-clause-legal
returns-clause-legal c = legal-seen (sees c.self.invariant.0 c.self.view_is)

pub returns-clause-promises : goal.returns-clause-promises
returns-clause-promises c = promises-seen (sees c.self.invariant.0 c.self.view_is)

pub returns-clause-reached : goal.returns-clause-reached
returns-clause-reached c = (at-value c.self.invariant.0 c.self.view_is).reached

pub returns-clause-few : goal.returns-clause-few
returns-clause-few c = (at-value c.self.invariant.0 c.self.view_is).short

pub returns-clause-laid_out : goal.returns-clause-laid_out
returns-clause-laid_out c = (at-value c.self.invariant.0 c.self.view_is).laid_out
