use Rattle.std.proofs.Common.{◌≡◌, [], drop}
use Rattle.chart_drawing.specs.Beside.{loops_with}
use Rattle.chart_drawing.proofs.beside.loops_of.Given as goal

-- the loops so far, and those of the ties that are left, are those of all
abbrev pub invariant-loop-tie : goal.invariant-loop-tie
invariant-loop-tie l =
    loops_with l.spots l.loops.items (drop l.tie-index l.ties)
    ≡ loops_with l.spots [] l.ties
