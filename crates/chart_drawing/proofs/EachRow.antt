-- EACH MARK THAT BEGINS A ROW HAS ONE.
use Rattle.std.proofs.Common.{◌≡◌, ℕ, ◌+◌, Bool, true, false, not, ◌&&◌, ◌||◌, List, [], ◌∷◌, ◌++◌}
use Rattle.std.proofs.Common.{refl, ap}
use Rattle.std.specs.Prelude.{if◌then◌else◌}
use Rattle.linx_base.specs.declared.identity.ItemAt.{ItemAt}
use Rattle.chart.specs.declared.mark.Mark.{Mark}
use Rattle.chart_drawing.specs.declared.setting.Setting.{Setting}
use Rattle.chart_drawing.specs.declared.spot.Spot.{Spot}
use Rattle.chart_drawing.specs.Drawing.{RowEachMark}
use Rattle.chart_drawing.specs.Rows.{rows_of}
use Rattle.chart_drawing.specs.Seen.{stands_in}
use Rattle.chart_drawing.specs.Spots.{spot_of, spots_from, seen_of}
use Rattle.chart_drawing.specs.Views.{is_seen, is_folded, quiet_with, row_behind, row_marks_from}

-- a spot more before others, which is seen or not and begins a row or not
one_more : (setting : Setting) (lines : List (List ℕ)) (spot : Spot) (mark : Mark)
    (spots : List Spot) (marks : List Mark) (seen stands folded : Bool) → spot.mark ≡ mark
    → spot.seen ≡ seen → spot.folded ≡ folded
    → RowEachMark (rows_of setting lines (seen_of spots)) marks
    → RowEachMark
    (rows_of setting lines (seen_of ((if seen || stands then spot ∷ [] else []) ++ spots)))
    ((if seen && not folded then mark ∷ [] else []) ++ marks)
one_more setting lines spot mark spots marks true stands false is seen folded each =
    rw seen (rw folded (rw is (ap (λ (l : List ItemAt). mark.line ∷ l) each)))
one_more setting lines spot mark spots marks true stands true is seen folded each =
    rw seen (rw folded each)
one_more setting lines spot mark spots marks false true folded is seen f each = rw seen each
one_more setting lines spot mark spots marks false false folded is seen f each = each

pub each_row : (setting : Setting) (lines : List (List ℕ)) (place row : ℕ) (quiet : Bool)
    (marks : List Mark)
    → RowEachMark (rows_of setting lines (seen_of (spots_from setting place row quiet marks)))
    (row_marks_from setting.view quiet marks)
each_row setting lines place row quiet [] = refl
each_row setting lines place row quiet (mark ∷ more) =
    one_more setting lines (spot_of setting place row quiet mark more) mark
    (spots_from setting (place + 1) (row_behind setting.view quiet row mark more)
    (quiet_with setting.view quiet mark more) more)
    (row_marks_from setting.view (quiet_with setting.view quiet mark more) more)
    (is_seen setting.view mark) (stands_in setting mark) (is_folded setting.view quiet mark more)
    refl refl refl
    (each_row setting lines (place + 1) (row_behind setting.view quiet row mark more)
    (quiet_with setting.view quiet mark more) more)
