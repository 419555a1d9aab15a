use Rattle.endpoint_queue.proofs.Lines.{no_notice}
use Rattle.endpoint_queue.proofs.line.Line.has_no_notice.Goals as goal

pub returns : goal.returns
returns c =
    λ attach. rw (← c.self.view_is) (no_notice c.self.inside.number c.self.inside.items.items
    c.self.invariant attach)
