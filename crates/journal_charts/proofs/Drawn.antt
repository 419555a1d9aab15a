-- What is written of a drawing, or why there is none.
use Rattle.std.proofs.Common.{◌≡◌, ℕ, List, sym, ap, subst, ◌∙◌}
use Rattle.std.specs.Prelude.{Result, Ok, Err}
use Rattle.std.specs.Result.{IfErr, IsErrAnd}
use Rattle.chart_drawing.specs.declared.drawing.Chart.{Chart}
use Rattle.chart_drawing.specs.declared.drawing.DrawError.{DrawError}
use Rattle.chart_drawing.specs.declared.setting.Setting.{Setting}
use Rattle.chart_drawing.specs.Drawing.{drawn}
use Rattle.svg_text.specs.declared.picture.Picture.{Picture}
use Rattle.svg_text.specs.Texts.{picture_text}
use Rattle.journal_charts.specs.Charts.{text_if}

-- a drawing of the same chart
drawn_again : (setting : Setting) (chart shown : Chart) (drawing : Result Picture DrawError)
    → chart ≡ shown → drawn setting chart ≡ drawing → drawn setting shown ≡ drawing
drawn_again setting chart shown drawing is now =
    ap (λ (c : Chart). drawn setting c) (sym is) ∙ now

pub written : (setting : Setting) (chart shown : Chart) (picture : Picture) (svg : List ℕ)
    → chart ≡ shown → drawn setting chart ≡ Ok picture → svg ≡ picture_text picture
    → text_if (drawn setting shown) ≡ Ok svg
written setting chart shown picture svg is now text =
    rw text (ap text_if (drawn_again setting chart shown (Ok picture) is now))

pub not_written : (setting : Setting) (chart shown : Chart) (e : DrawError)
    → chart ≡ shown → drawn setting chart ≡ Err e → text_if (drawn setting shown) ≡ Err e
not_written setting chart shown e is now =
    ap text_if (drawn_again setting chart shown (Err e) is now)

-- what holds of an error holds where it is passed on
pub passed_on : {T E : Type 0} (r : Result T E) (e : E) (P : E → Type 0)
    → IsErrAnd r (λ y. y ≡ e) → P e → IfErr r P
passed_on (Ok x) e P same p = tt
passed_on (Err y) e P same p = subst P (sym same) p
