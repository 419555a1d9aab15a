use Rattle.std.proofs.Common.{[], inl, subst}
use Rattle.seed_runs.specs.declared.runs.RunStop.{RunStop}
use Rattle.seed_search.specs.Searches.{IsStop}
use Rattle.linx_commands.proofs.Searching.{ended_halted, legal_halted, silent_stop}
use Rattle.linx_commands.proofs.search.halt.Goals as goal

pub returns-in-Bad-clause-ended : goal.returns-in-Bad-clause-ended
returns-in-Bad-clause-ended c search wanted bytes is =
    let it = subst (λ (s : RunStop). IsStop bytes search.first search.more search.sought wanted s)
    c.in-Bad.is is in
    rw c.unstarted.ensures.status (it.stopped, c.unstarted.ensures.empty)

pub returns-in-Stopped-clause-ended : goal.returns-in-Stopped-clause-ended
returns-in-Stopped-clause-ended c search wanted bytes is =
    let it = subst (λ (s : RunStop). IsStop bytes search.first search.more search.sought wanted s)
    c.in-Stopped.is is in
    rw c.status_of_stop.ensures (ended_halted search wanted bytes c.in-Stopped.cause it.seed []
    c.in-Stopped.journal.log it.among it.before it.stopped)

pub returns-in-Stopped-clause-legal : goal.returns-in-Stopped-clause-legal
returns-in-Stopped-clause-legal c search wanted bytes is =
    let it = subst (λ (s : RunStop). IsStop bytes search.first search.more search.sought wanted s)
    c.in-Stopped.is is in
    legal_halted bytes it.seed c.in-Stopped.cause c.in-Stopped.journal.log it.stopped

pub returns-in-Stopped-clause-silent : goal.returns-in-Stopped-clause-silent
returns-in-Stopped-clause-silent c = rw c.status_of_stop.ensures (silent_stop c.in-Stopped.cause)

pub returns-in-NoMemory-clause-ended : goal.returns-in-NoMemory-clause-ended
returns-in-NoMemory-clause-ended c search wanted bytes is =
    rw c.unstarted-in-NoMemory.ensures.status (inl c.unstarted-in-NoMemory.ensures.empty)
