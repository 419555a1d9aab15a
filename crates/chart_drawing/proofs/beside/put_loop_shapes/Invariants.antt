use Rattle.std.proofs.Common.{◌≡◌, ◌++◌, take, map}
use Rattle.chart_drawing.specs.Beside.{loop_shape}
use Rattle.chart_drawing.proofs.beside.put_loop_shapes.Given as goal

-- the loops so far are drawn
abbrev pub invariant-loop-l : goal.invariant-loop-l
invariant-loop-l l =
    l.out.items ≡ l.initial.out.items ++ map loop_shape (take l.l-index l.loops)
