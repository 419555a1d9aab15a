use Rattle.std.proofs.Common.{◌≡◌, ◌++◌, drop}
use Rattle.chart_map.specs.Beside.{rare_rows_from}
use Rattle.chart_map.proofs.beside.rare_rows.Given as goal

-- the rows so far, and those of the lines that are left, are all of them
abbrev pub invariant-loop-k : goal.invariant-loop-k
invariant-loop-k l =
    l.rows.items ++ rare_rows_from l.edge l.grid l.lines l.first l.k (drop l.k l.rare)
    ≡ rare_rows_from l.edge l.grid l.lines l.first 0 l.rare
