use Rattle.std.proofs.Common.{sym, drop-drop}
use Rattle.linx_base.proofs.undo_queue.UndoQueue.pass.Goals as goal

pub returns-then-self-len-clause-is : goal.returns-then-self-len-clause-is
returns-then-self-len-clause-is g c =
    rw (← c.self.view_is) (sym (drop-drop 1 c.self.inside.gone c.self.inside.elements.items))
