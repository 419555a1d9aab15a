use Rattle.std.proofs.Common.{◌≡◌, ◌++◌, length, flat_map}
use Rattle.script_words.specs.Lines.{lines_of}
use Rattle.journal_charts.specs.Named.{name_in_line, actor_names}
use Rattle.journal_charts.proofs.named.actor_names.Given as goal

-- the names so far, and those of the lines that are left, are those of all
abbrev pub invariant-lines : goal.invariant-lines
invariant-lines l = l.names ++ flat_map name_in_line (lines_of l.rest) ≡ actor_names l.bytes

abbrev pub decreases-lines : goal.decreases-lines
decreases-lines l = length l.rest
