use Rattle.std.proofs.Common.{◌≡◌, ◌++◌, drop}
use Rattle.chart_drawing.specs.Views.{row_marks, row_marks_from}
use Rattle.chart_drawing.proofs.fold.row_marks.Given as goal

-- the marks so far that begin rows, and those that are left, are all
abbrev pub invariant-loop-place : goal.invariant-loop-place
invariant-loop-place l =
    l.begun.items ++ row_marks_from l.view l.quiet (drop l.place l.marks)
    ≡ row_marks l.view l.marks
