use Rattle.std.proofs.Common.{◌≤◌, length, flat_map}
use Rattle.journal.specs.History.{effects_of}
use Rattle.journal.specs.Histories.{first_steps}
use Rattle.journal_text.specs.Collected.{opened_log}
use Rattle.journal_text.specs.Values.{first_bytes}
use Rattle.text_logs.specs.Begun.{IsBegun}
use Rattle.text_logs.proofs.comparing.expect_logs.Given as goal

-- the logs of the incarnations that the first steps opened were expected
abbrev pub invariant-loop-done : goal.invariant-loop-done
invariant-loop-done l = (l.next.alike ≤ length l.text)
    × IsBegun l.text
    (flat_map (opened_log first_bytes l.journal.log)
    (effects_of (first_steps l.done l.journal.log.steps)))
    l.next
