use Rattle.std.proofs.Common.{◌≡◌, drop}
use Rattle.chart_drawing.specs.Labels.{with_words}
use Rattle.chart_drawing.proofs.labels.put_words_of.Given as goal

-- the words so far, with those that are left, are all
abbrev pub invariant-loop-number : goal.invariant-loop-number
invariant-loop-number l =
    with_words l.line l.out.items (drop l.number-index l.numbers)
    ≡ with_words l.line l.initial.out.items l.numbers
