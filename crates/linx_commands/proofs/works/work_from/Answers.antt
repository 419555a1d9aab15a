use Rattle.linx_commands.proofs.works.work_from.Goals as goal

pub returns-in-None-clause-worked : goal.returns-in-None-clause-worked
returns-in-None-clause-worked g c = rw c.in-None.is c.work_on.ensures.worked
