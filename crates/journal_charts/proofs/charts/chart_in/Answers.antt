use Rattle.journal_charts.specs.Charts.{rows_chart}
use Rattle.journal_charts.proofs.Drawn.{written, not_written, passed_on}
use Rattle.journal_charts.proofs.charts.chart_in.Goals as goal

pub returns-clause-drawn : goal.returns-clause-drawn
returns-clause-drawn c =
    written c.args.setting c.in_ok-chart.chart
    (rows_chart c.args.text.now c.args.journal.now.log.steps) c.in_ok-picture.picture
    c.in_ok-text.field-0.items c.in_ok-chart.ensures c.in_ok-picture.ensures.drawn
    c.in_ok-text.ensures.spelled

pub returns-in_err-picture-clause-refused : goal.returns-in_err-picture-clause-refused
returns-in_err-picture-clause-refused c =
    passed_on c.from_residual-in_err-picture.result c.in_err-picture.field-0.0 _
    c.from_residual-in_err-picture.ensures.1
    (λ apart.
    not_written c.args.setting c.in_ok-chart.chart
    (rows_chart c.args.text.now c.args.journal.now.log.steps) c.in_err-picture.field-0.0
    c.in_ok-chart.ensures (c.in_err-picture.ensures.refused apart))
