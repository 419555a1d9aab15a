use Rattle.std.proofs.Common.{◌≡◌, ◌++◌, flat_map}
use Rattle.journal.specs.History.{effects_of}
use Rattle.journal.specs.Histories.{first_steps}
use Rattle.journal_text.specs.Known.{digest_by}
use Rattle.journal_text.specs.Collected.{opened_log}
use Rattle.journal_text.proofs.all_logs.write_blocks.Given as goal

-- the incarnations that the first steps opened have their logs
abbrev pub invariant-loop-done : goal.invariant-loop-done
invariant-loop-done l = l.out.items ≡ l.initial.out.items
    ++ flat_map (opened_log (digest_by l.logs.by) l.journal.log) (effects_of (first_steps l.done l.journal.log.steps))
