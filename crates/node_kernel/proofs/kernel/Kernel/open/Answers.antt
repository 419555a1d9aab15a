use Rattle.node_kernel.proofs.Calling.{assembled, opened_node}
use Rattle.node_kernel.proofs.kernel.Kernel.open.Goals as goal

pub returns-in-Ok-open-clause-ok : goal.returns-in-Ok-open-clause-ok
returns-in-Ok-open-clause-ok c =
    let k = c.self.inside in
    let n = assembled k.roster k.hunts k.attaches k.met in
    rw (← c.self.view_is) (opened_node n c.args.step c.open.new.self c.in-Ok-opening.effects
    c.as_slice.result.now c.args.name c.in-Ok.path c.next-inc.result c.drop_for.new.self
    c.in-Ok.ensures c.next-inc.ensures (c.in-Ok-opening.ensures c.args.name c.in-Ok.ensures)
    c.as_slice.ensures c.in-Ok-open.ensures.ok c.drop_for.ensures)
