use Rattle.node_kernel.proofs.Calling.{sent_over}
use Rattle.fabric.proofs.makings.queue_here.Goals as goal

pub returns-clause-ok : goal.returns-clause-ok
returns-clause-ok c =
    rw c.in-There.is (sent_over c.args.kernel.now c.args.from c.args.signal c.args.step
    c.in-There.link c.in-There.session c.in-There.inc)
