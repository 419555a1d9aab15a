use Rattle.std.proofs.Common.{◌≡◌, ◌++◌}
use Rattle.chart_map.specs.Captions.{row_numbers}
use Rattle.chart_map.proofs.captions.put_row_numbers.Given as goal

-- the numbers so far are drawn
abbrev pub invariant-loop-k : goal.invariant-loop-k
invariant-loop-k l = l.out.items ≡ l.initial.out.items ++ row_numbers l.grid l.k
