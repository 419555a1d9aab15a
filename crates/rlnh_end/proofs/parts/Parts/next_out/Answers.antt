use Rattle.rlnh_end.proofs.parts.Parts.next_out.Goals as goal

pub returns-clause-messages : goal.returns-clause-messages
returns-clause-messages c = rw (← c.self.view_is) c.self.invariant.1
