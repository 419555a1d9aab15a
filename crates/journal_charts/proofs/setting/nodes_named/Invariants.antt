use Rattle.std.proofs.Common.{◌≡◌, ◌++◌, drop}
use Rattle.journal_charts.specs.Setting.{nodes_from}
use Rattle.journal_charts.proofs.setting.nodes_named.Given as goal

-- the nodes so far, and those of the names that are left, are those of all
abbrev pub invariant-loop-name : goal.invariant-loop-name
invariant-loop-name l =
    l.nodes.items ++ nodes_from l.number (drop l.name-index l.names) ≡ nodes_from 1 l.names
