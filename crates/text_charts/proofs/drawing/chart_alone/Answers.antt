use Rattle.std.proofs.Common.{◌≡◌, ◌≢◌, ℕ, List, IfErr, IfOk, Ok, Err, Result, subst}
use Rattle.journal_charts.proofs.Drawn.{passed_on}
use Rattle.text_charts.specs.declared.stop.ChartStop.{ChartStop}
use Rattle.text_charts.specs.declared.stop.ChartStop.TheVariants.{NoMemory}
use Rattle.text_charts.proofs.Tellings.{alone_drawn, alone_stopped}
use Rattle.text_charts.proofs.drawing.chart_alone.Goals as goal

pub returns-clause-drawn : goal.returns-clause-drawn
returns-clause-drawn c =
    subst (λ (x : Result (List ℕ) ChartStop).
    IfOk c.drawn_or_stop.result (λ chart. x ≡ Ok chart.items))
    (alone_drawn c.args.kind c.args.view c.args.text.now c.in_ok-journal.journal.log
    c.in_ok-setting.setting c.in_ok-journal.ensures.read c.in_ok-journal.ensures.names
    c.in_ok-setting.ensures) c.drawn_or_stop.ensures.drawn

pub returns-clause-stopped : goal.returns-clause-stopped
returns-clause-stopped c =
    subst (λ (x : Result (List ℕ) ChartStop).
    IfErr c.drawn_or_stop.result (λ stop. stop ≢ NoMemory → x ≡ Err stop))
    (alone_drawn c.args.kind c.args.view c.args.text.now c.in_ok-journal.journal.log
    c.in_ok-setting.setting c.in_ok-journal.ensures.read c.in_ok-journal.ensures.names
    c.in_ok-setting.ensures) c.drawn_or_stop.ensures.stopped

pub returns-in_err-journal-clause-stopped : goal.returns-in_err-journal-clause-stopped
returns-in_err-journal-clause-stopped c =
    passed_on c.from_residual.result c.in_err-journal.field-0.0 _
    c.from_residual.ensures.1
    (λ apart.
    alone_stopped c.args.kind c.args.view c.args.text.now c.in_err-journal.field-0.0
    (c.in_err-journal.ensures.unread apart))
