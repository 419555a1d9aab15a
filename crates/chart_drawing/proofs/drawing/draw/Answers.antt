use Rattle.std.proofs.Common.{◌≡◌, ◌≤◌, ◌∙◌, arith}
use Rattle.std.specs.Prelude.{Ok}
use Rattle.std.proofs.lemmas.Result.{IfOk-weaker, MatchResult-weaker}
use Rattle.svg_text.specs.declared.picture.Picture.{Picture}
use Rattle.chart_drawing.specs.Drawing.{drawn, drawn_if_narrow}
use Rattle.chart_drawing.proofs.Few.{few}
use Rattle.chart_drawing.proofs.drawing.draw.Goals as goal

pub returns-clause-drawn : goal.returns-clause-drawn
returns-clause-drawn c =
    let within : c.in_ok-begun.begun ≤ 6000 = omega (arith, c.if-begun-gt-ROWS_MOST.false) in
    let same : drawn c.args.setting c.args.chart.now
    ≡ drawn_if_narrow c.setting_in-narrowed.result c.args.chart.now =
    few c.args.setting c.setting_in-narrowed.result c.args.chart.now c.as_slice-marks.result.now
    c.in_ok-begun.begun c.as_slice-marks.ensures c.in_ok-begun.ensures within
    c.setting_in-narrowed.ensures.setting in
    IfOk-weaker c.drawn_if_narrow.result
    (λ (p : Picture). drawn_if_narrow c.setting_in-narrowed.result c.args.chart.now ≡ Ok p)
    (λ (p : Picture). drawn c.args.setting c.args.chart.now ≡ Ok p) (λ p now. same ∙ now)
    c.drawn_if_narrow.ensures.drawn

pub returns-clause-refused : goal.returns-clause-refused
returns-clause-refused c =
    let within : c.in_ok-begun.begun ≤ 6000 = omega (arith, c.if-begun-gt-ROWS_MOST.false) in
    let same : drawn c.args.setting c.args.chart.now
    ≡ drawn_if_narrow c.setting_in-narrowed.result c.args.chart.now =
    few c.args.setting c.setting_in-narrowed.result c.args.chart.now c.as_slice-marks.result.now
    c.in_ok-begun.begun c.as_slice-marks.ensures c.in_ok-begun.ensures within
    c.setting_in-narrowed.ensures.setting in
    MatchResult-weaker c.drawn_if_narrow.result c.drawn_if_narrow.ensures.refused (λ p any. tt)
    (λ e told apart. same ∙ told apart)
