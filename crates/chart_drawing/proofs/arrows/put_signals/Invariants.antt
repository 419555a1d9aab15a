use Rattle.std.proofs.Common.{◌≡◌, ◌++◌, take}
use Rattle.chart_drawing.specs.Arrows.{signal_arrows}
use Rattle.chart_drawing.proofs.arrows.put_signals.Given as goal

-- the signals so far are drawn
abbrev pub invariant-loop-tie : goal.invariant-loop-tie
invariant-loop-tie l =
    l.out.items
    ≡ l.initial.out.items ++ signal_arrows l.spots (take l.tie-index l.ties)
