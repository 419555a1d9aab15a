use Rattle.node_kernel.proofs.Calling.{assembled, closed_node}
use Rattle.node_kernel.proofs.kernel.Kernel.close.Goals as goal

pub returns-clause-ok : goal.returns-clause-ok
returns-clause-ok c =
    let k = c.self.inside in
    let n = assembled k.roster k.hunts k.attaches k.met in
    rw (← c.self.view_is) (closed_node n c.args.step c.close.new.self c.in_ok-effects.effects
    c.as_slice.result.now c.args.at c.drop_of.new.self c.drop_of-2.new.self c.drop_to.new.self
    c.in_ok-effects.ensures c.as_slice.ensures c.in_ok-close.ensures.ok
    c.drop_of.ensures c.drop_of-2.ensures c.drop_to.ensures)
