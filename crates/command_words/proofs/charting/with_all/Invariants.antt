use Rattle.std.proofs.Common.{◌≡◌, ◌+◌, drop, map, string_bytes}
use Rattle.command_words.specs.Charts.{charting_by}
use Rattle.command_words.proofs.charting.with_all.Given as goal

-- the words that are left make of what was asked for so far what all make of it at first
abbrev pub invariant-loop-before : goal.invariant-loop-before
invariant-loop-before l =
    charting_by (l.before + 1) l.charting (map string_bytes (drop l.before l.behind))
    ≡ charting_by 1 l.initial.charting (map string_bytes l.behind)
