use Rattle.seed_runs.proofs.runs.run_of_seed.Goals as goal

pub returns-in-Err-clause-stopped : goal.returns-in-Err-clause-stopped
returns-in-Err-clause-stopped c = c.in-Err.ensures.unspelled c.args.seed
