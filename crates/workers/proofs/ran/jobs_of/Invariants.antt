use Rattle.std.proofs.Common.{◌≡◌, ◌++◌}
use Rattle.workers.specs.Running.{jobs_with}
use Rattle.workers.proofs.ran.jobs_of.Given as goal

-- the jobs so far, and those of the passes and the players that are left, are all
abbrev pub invariant-loop-pass : goal.invariant-loop-pass
invariant-loop-pass l =
    l.jobs.items ++ jobs_with l.pass-iterator.rest.items l.players.rest.items
    ≡ jobs_with l.fn.passes.items l.fn.players.items
