-- A chart of which few enough marks begin rows is drawn.
use Rattle.std.proofs.Common.{◌≡◌, ℕ, ◌≤◌, Bool, true, false, List, length, refl, sym, ap, subst}
use Rattle.std.proofs.Common.{◌∙◌, arith, nat_le}
use Rattle.std.specs.Prelude.{Err, if◌then◌else◌}
use Rattle.std.proofs.lemmas.Bool.Decides.{nat_tests}
use Rattle.chart.specs.declared.mark.Mark.{Mark}
use Rattle.chart_drawing.specs.declared.drawing.Chart.{Chart}
use Rattle.chart_drawing.specs.declared.drawing.DrawError.TheVariants.{TooLong}
use Rattle.chart_drawing.specs.declared.setting.Setting.{Setting}
use Rattle.chart_drawing.specs.Drawing.{drawn, drawn_if_narrow}
use Rattle.chart_drawing.specs.Seen.{setting_in}
use Rattle.chart_drawing.specs.Views.{row_marks}

told : (n most : ℕ) → n ≤ most → nat_le n most ≡ true
told n most h = grind (arith, nat_tests)

chosen : {X : Type 0} (b : Bool) (x y : X) → b ≡ true → (if b then x else y) ≡ x
chosen true x y is = refl
chosen false x y is = cc

pub few : (setting narrowed : Setting) (chart : Chart) (marks : List Mark) (begun : ℕ)
    → marks ≡ chart.marks → begun ≡ length (row_marks setting.view marks) → begun ≤ 6000
    → narrowed ≡ setting_in marks setting → drawn setting chart ≡ drawn_if_narrow narrowed chart
unfolding drawn
few setting narrowed chart marks begun is counted within stands =
    let same : begun ≡ length (row_marks setting.view chart.marks) =
    counted ∙ ap (λ (l : List Mark). length (row_marks setting.view l)) is in
    let fits : length (row_marks setting.view chart.marks) ≤ 6000 =
    subst (λ (n : ℕ). n ≤ 6000) same within in
    chosen (nat_le (length (row_marks setting.view chart.marks)) 6000)
    (drawn_if_narrow (setting_in chart.marks setting) chart) (Err TooLong)
    (told (length (row_marks setting.view chart.marks)) 6000 fits)
    ∙ ap (λ (s : Setting). drawn_if_narrow s chart)
    (sym (stands ∙ ap (λ (l : List Mark). setting_in l setting) is))
