use Rattle.run_trunks.proofs.run_trunks.RunTrunks.call_all.Goals as goal

pub returns-clause-free : goal.returns-clause-free
returns-clause-free c silent =
    c.call_all.ensures.free
    (rw (c.deref.ensures.value, c.deref_mut.ensures.value) (rw (← c.self.view_is) at silent))
