-- All ties of a journal.
use Rattle.std.specs.Prelude.{List, ◌++◌}
use Rattle.journal.specs.declared.effect.Step.{Step}
use Rattle.chart.specs.declared.tie.Tie.{Tie}
use Rattle.chart.specs.Ties.{ties_of}
use Rattle.chart.specs.Carried.{over_links, lost_ties}

-- ALL TIES OF A JOURNAL: those on nodes in the order of the lines where they end, those of signals
-- that arrived over links, and those of signals that never did
abbrev pub all_ties : List Step → List Tie
all_ties S = ties_of S ++ (over_links S).ties ++ lost_ties (over_links S).flights
