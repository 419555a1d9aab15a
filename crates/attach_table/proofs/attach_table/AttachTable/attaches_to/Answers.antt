use Rattle.attach_table.proofs.Rooms.{all_filter}
use Rattle.attach_table.proofs.attach_table.AttachTable.attaches_to.Goals as goal

pub returns-clause-room : goal.returns-clause-room
returns-clause-room c = rw c.under.ensures (all_filter _ _ c.self.inside.attaches c.self.invariant)
