use Rattle.rlnh_end.proofs.end.RlnhEnd.input.Goals as goal

pub returns-in-Ok-clause-bad : goal.returns-in-Ok-clause-bad
returns-in-Ok-clause-bad c = rw (← c.self.view_is) c.in-Ok.ensures.bad

pub returns-in-Ok-clause-bad_only : goal.returns-in-Ok-clause-bad_only
returns-in-Ok-clause-bad_only c = rw (← c.self.view_is) c.in-Ok.ensures.bad_only
