use Rattle.std.proofs.Common.{◌≡◌}
use Rattle.chart_drawing.specs.Labels.{behind_words}
use Rattle.chart_drawing.proofs.labels.behind_words.Given as goal

-- what is behind the words so far is left
abbrev pub invariant-loop-done : goal.invariant-loop-done
invariant-loop-done l =
    l.rest ≡ behind_words l._done l.line
