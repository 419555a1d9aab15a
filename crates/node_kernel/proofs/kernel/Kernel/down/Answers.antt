use Rattle.node_kernel.proofs.Calling.{assembled, lost_node}
use Rattle.node_kernel.proofs.kernel.Kernel.down.Goals as goal

pub returns-clause-ok : goal.returns-clause-ok
returns-clause-ok c =
    let k = c.self.inside in
    let n = assembled k.roster k.hunts k.attaches k.met in
    rw (← c.self.view_is) (lost_node n c.args.step c.bring_all.new.self c.in_ok-effects.effects
    c.as_slice.result.now c.args.link c.args.session c.node-node.result c.drop_within.new.self
    c.drop_session.new.self
    c.node-node.ensures c.in_ok-effects.ensures c.as_slice.ensures c.in_ok-bring_all.ensures.ok
    c.drop_within.ensures c.drop_session.ensures)
