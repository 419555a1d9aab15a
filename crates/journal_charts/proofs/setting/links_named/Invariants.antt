use Rattle.std.proofs.Common.{◌≡◌, ◌++◌, drop}
use Rattle.journal_charts.specs.Setting.{links_from}
use Rattle.journal_charts.proofs.setting.links_named.Given as goal

-- the links so far, and those of the names that are left, are those of all
abbrev pub invariant-loop-name : goal.invariant-loop-name
invariant-loop-name l =
    l.links.items ++ links_from l.journal.log.steps l.number (drop l.name-index l.names)
    ≡ links_from l.journal.log.steps 1 l.names
