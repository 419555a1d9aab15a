use Rattle.std.proofs.Common.{List, sym, subst, ◌∙◌}
use Rattle.chart.specs.declared.mark.Mark.{Mark}
use Rattle.chart.specs.Marks.{MarkEachLine}
use Rattle.chart.proofs.EachLine.{each_line}
use Rattle.chart.proofs.marks.all_marks.Goals as goal

pub returns-clause-one_each : goal.returns-clause-one_each
returns-clause-one_each c =
    subst (λ (marks : List Mark). MarkEachLine marks c.args.journal.now.log.steps)
    (sym (c.of.ensures ∙ c.in_ok-marks.ensures)) (each_line c.args.journal.now.log.steps)
