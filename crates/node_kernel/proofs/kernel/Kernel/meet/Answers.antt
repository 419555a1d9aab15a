use Rattle.node_kernel.proofs.Calling.{assembled, met_node}
use Rattle.node_kernel.proofs.kernel.Kernel.meet.Goals as goal

pub returns-clause-ok : goal.returns-clause-ok
returns-clause-ok c =
    let k = c.self.inside in
    let n = assembled k.roster k.hunts k.attaches k.met in
    rw (← c.self.view_is) (met_node n c.args.step c.bring_all.new.self c.in_ok-effects.effects
    c.as_slice.result.now c.args.link c.args.peer c.args.name c.args.path.now c.node-node.result
    c.drop_for.new.self c.add.new.self
    c.requires c.node-node.ensures (c.in_ok-effects.ensures c.args.link
    c.requires) c.as_slice.ensures c.in_ok-bring_all.ensures.ok
    c.drop_for.ensures c.in_default.ensures.ok)
