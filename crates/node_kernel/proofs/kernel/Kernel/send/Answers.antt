use Rattle.node_kernel.proofs.Calling.{sent_over}
use Rattle.node_kernel.proofs.Keeping.{always_ok}
use Rattle.node_kernel.proofs.kernel.Kernel.send.Goals as goal

pub returns-after-has-clause-ok : goal.returns-after-has-clause-ok
returns-after-has-clause-ok c =
    rw c.in-There.is (always_ok c.if-has.result (sent_over c.args.self.now c.args.from c.args.signal
    c.args.step c.in-There.link c.in-There.session c.in-There.inc))
