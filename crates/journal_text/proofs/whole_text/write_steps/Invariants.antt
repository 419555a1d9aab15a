use Rattle.std.proofs.Common.{◌≡◌, ◌++◌}
use Rattle.journal.specs.Histories.{first_steps}
use Rattle.journal_text.specs.Known.{digest_by}
use Rattle.journal_text.specs.Text.{steps_text}
use Rattle.journal_text.proofs.whole_text.write_steps.Given as goal

-- the first steps have their lines
abbrev pub invariant-loop-done : goal.invariant-loop-done
invariant-loop-done l = l.out.items ≡ l.initial.out.items
    ++ steps_text (digest_by l.digests.by) l.journal.log.names (first_steps l.done l.journal.log.steps)
