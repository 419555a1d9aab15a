use Rattle.std.proofs.Common.{◌≡◌}
use Rattle.journal.specs.Histories.{first_steps}
use Rattle.journal_text.specs.Owners.{Tracks}
use Rattle.journal_text.specs.Collected.{Collects}
use Rattle.journal_text.proofs.all_logs.collect.Given as goal

-- the owners and the logs are those after the first steps, printed by the digests
abbrev pub invariant-loop-done : goal.invariant-loop-done
invariant-loop-done l = Tracks (first_steps l.done l.journal.log.steps) l.owners
    × Collects l.journal.log.names l.journal.log.steps (first_steps l.done l.journal.log.steps)
    l.logs × (l.logs.by ≡ l.digests.by)
