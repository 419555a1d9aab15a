use Rattle.std.proofs.Common.{ℕ, ◌≤◌, List, ◌++◌, length, take, flat_map}
use Rattle.journal_text.specs.Collected.{opened_log}
use Rattle.journal_text.specs.Values.{first_bytes}
use Rattle.text_logs.specs.Begun.{IsBegun}
use Rattle.text_logs.proofs.comparing.expect_all_opened.Given as goal

-- the logs of the incarnations that the effects so far opened were expected
abbrev pub invariant-loop-effect : goal.invariant-loop-effect
invariant-loop-effect l = (l.next.alike ≤ length l.text)
    × ((so_far : List ℕ) → IsBegun l.text so_far l.fn.begun
    → IsBegun l.text
    (so_far ++ flat_map (opened_log first_bytes l.journal.log) (take l.effect-index l.effects))
    l.next)
