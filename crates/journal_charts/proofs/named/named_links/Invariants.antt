use Rattle.std.proofs.Common.{◌≡◌, ◌++◌, drop}
use Rattle.journal_charts.specs.Named.{named_links}
use Rattle.journal_charts.proofs.named.named_links.Given as goal

-- the links so far, and those that are left, are all of them
abbrev pub invariant-loop-decl : goal.invariant-loop-decl
invariant-loop-decl l =
    l.drawn.items ++ named_links l.names l.number (drop l.decl-index l.links)
    ≡ named_links l.names 1 l.links
