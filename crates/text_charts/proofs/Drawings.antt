-- What is drawn, as a chart.
use Rattle.std.proofs.Common.{◌≡◌, ◌∙◌, ℕ, List, Result, Ok, Err, sym, ap}
use Rattle.chart_drawing.specs.declared.drawing.DrawError.{DrawError}
use Rattle.chart_page.specs.Pages.{page_round}
use Rattle.text_charts.specs.Drawn.{draw_stop, drawn_or_stop, page_if}

pub page_drawn : (picture : Result (List ℕ) DrawError) (svg page : List ℕ)
    → picture ≡ Ok svg → page ≡ page_round svg → page_if picture ≡ Ok page
page_drawn picture svg page drawn round =
    ap page_if drawn ∙ ap (λ (p : List ℕ). Ok p) (sym round)

pub page_not_drawn : (picture : Result (List ℕ) DrawError) (e : DrawError) → picture ≡ Err e
    → page_if picture ≡ Err e
page_not_drawn picture e drawn = ap page_if drawn

pub is_drawn : (chart : Result (List ℕ) DrawError) (text : List ℕ) → chart ≡ Ok text
    → drawn_or_stop chart ≡ Ok text
is_drawn chart text drawn = ap drawn_or_stop drawn

pub is_not_drawn : (chart : Result (List ℕ) DrawError) (e : DrawError) → chart ≡ Err e
    → drawn_or_stop chart ≡ Err (draw_stop e)
is_not_drawn chart e drawn = ap drawn_or_stop drawn
