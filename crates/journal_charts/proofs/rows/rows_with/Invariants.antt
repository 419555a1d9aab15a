use Rattle.std.proofs.Common.{◌≡◌, map, drop}
use Rattle.journal_charts.specs.Rows.{no_rows, rows_with}
use Rattle.journal_charts.proofs.rows.rows_with.Given as goal

-- the rows so far and those of the lines that are left are those of all
abbrev pub invariant-loop-line : goal.invariant-loop-line
invariant-loop-line l =
    rows_with l.rows (map (λ w. w.now) (drop l.line-index l.lines))
    ≡ rows_with no_rows (map (λ w. w.now) l.lines)
