use Rattle.std.proofs.Common.{◌≡◌, ◌++◌, take, flat_map}
use Rattle.journal_text.specs.Known.{digest_by}
use Rattle.journal_text.specs.Collected.{opened_log}
use Rattle.journal_text.proofs.all_logs.write_opened.Given as goal

-- the incarnations that the effects so far opened have their logs
abbrev pub invariant-loop-effect : goal.invariant-loop-effect
invariant-loop-effect l = l.out.items
    ≡ l.initial.out.items ++ flat_map (opened_log (digest_by l.logs.by) l.journal.log) (take l.effect-index l.effects)
