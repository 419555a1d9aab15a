use Rattle.attach_table.proofs.Rooms.{all_filter}
use Rattle.attach_table.proofs.attach_table.AttachTable.detach.Goals as goal

pub invariant_of-self : goal.invariant_of-self
invariant_of-self c = rw c.drop_all.ensures (all_filter _ _ c.self.inside.attaches c.self.invariant)
