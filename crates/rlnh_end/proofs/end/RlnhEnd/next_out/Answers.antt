use Rattle.rlnh_end.proofs.end.RlnhEnd.next_out.Goals as goal

pub returns-clause-messages : goal.returns-clause-messages
returns-clause-messages c = rw (← c.self.view_is) c.next_out.ensures.messages
