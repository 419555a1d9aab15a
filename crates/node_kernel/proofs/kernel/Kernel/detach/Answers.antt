use Rattle.node_kernel.proofs.Calling.{assembled, neither_node, queued_node}
use Rattle.node_kernel.proofs.kernel.Kernel.detach.Goals as goal

pub returns-then-drop_notices-clause-after : goal.returns-then-drop_notices-clause-after
returns-then-drop_notices-clause-after c =
    let k = c.self.inside in
    let n = assembled k.roster k.hunts k.attaches k.met in
    rw (← c.self.view_is) (queued_node n c.args.at c.args.r c.drop_notices.new.self
    c.detach.new.self c.detach.ensures.others c.drop_notices.ensures.others
    c.if-detach.ensures.any c.if-drop_notices.ensures.any)

pub returns-clause-after : goal.returns-clause-after
returns-clause-after c =
    let k = c.self.inside in
    let n = assembled k.roster k.hunts k.attaches k.met in
    rw (← c.self.view_is) (neither_node n c.args.at c.args.r c.drop_notices.new.self
    c.detach.new.self c.detach.ensures.others c.drop_notices.ensures.others
    c.if-detach.ensures.any c.if-drop_notices.ensures.any)
