-- The rare lines beside the strips of a map.
use Rattle.std.specs.Prelude.{ℕ, ◌+◌, ◌-◌, ◌*◌, ◌==◌, min, nat_le, List, [], ◌∷◌, ◌++◌, codes}
use Rattle.std.specs.Prelude.{decimal, length, slice_get, if◌then◌else◌}
use Rattle.svg_text.specs.declared.class.Class.TheVariants.{Hit, Packet, Faint}
use Rattle.svg_text.specs.declared.picture.Row.{Row}
use Rattle.svg_text.specs.declared.shape.Anchor.TheVariants.{Start}
use Rattle.svg_text.specs.declared.shape.Shape.{Shape}
use Rattle.svg_text.specs.declared.shape.Shape.TheVariants.{Box, Path, Words}
use Rattle.svg_text.specs.declared.shape.Stroke.TheVariants.{Move, Line}
use Rattle.chart_drawing.specs.Rows.{cut, label_class, words_if}
use Rattle.chart_drawing.specs.Spots.{point}
use Rattle.chart_map.specs.declared.grid.Grid.{Grid}
use Rattle.chart_map.specs.declared.rare.Rare.{Rare}
use Rattle.chart_map.specs.Grid.{row_of}
use Rattle.chart_map.specs.Layout.{row_top}

-- the words of the line at a place, no words where there are none
abbrev pub words_at : List (List ℕ) → ℕ → List ℕ
words_at lines place = words_if (slice_get lines place)

-- the position of a line's step, and the line
abbrev pub rare_title : List (List ℕ) → Rare → List ℕ
rare_title lines rare =
    decimal rare.mark.line.step ++ codes " " ++ words_at lines rare.place

-- how far down the words of the k-th line from 0 stand, behind those of the first one
abbrev pub label_y : ℕ → ℕ → ℕ
label_y first k = first + 14 * k

-- how far down the words of the first rare line stand: beside its row, where there is room below for
-- all of them, else so far above
abbrev pub first_y : Grid → ℕ → List Rare → ℕ
first_y grid room [] = 96
first_y grid room (first ∷ more) =
    96 + min (3 * row_of grid first.mark.line.step) (14 * (room - length (first ∷ more)))

-- what lights under the pointer, behind the right edge of all strips
abbrev pub hit : ℕ → ℕ → Shape
hit edge y = Box Hit (record { corner = point (edge + 32) (y - 10); width = 306; height = 14 })

-- the line from a row to the words beside it
abbrev pub lead : ℕ → ℕ → ℕ → Shape
lead edge row y =
    Path Packet (Move (point edge (row_top row + 1)) ∷ Line (point (edge + 6) (row_top row + 1))
    ∷ Line (point (edge + 28) (y - 4)) ∷ Line (point (edge + 32) (y - 4)) ∷ [])

-- a rare line: what lights under the pointer, the line to its row, and its words
abbrev pub rare_shapes : ℕ → ℕ → ℕ → Rare → List ℕ → List Shape
rare_shapes edge row y rare title =
    hit edge y ∷ lead edge row y
    ∷ Words (label_class rare.mark.kind) Start (point (edge + 36) y) (cut 42 title) ∷ []

-- A RARE LINE, whose words stand so far down, with a line to its row
abbrev pub rare_row : ℕ → Grid → List (List ℕ) → ℕ → Rare → Row
rare_row edge grid lines y rare = record {
  step = rare.mark.line.step;
  effect = rare.mark.line.place;
  title = rare_title lines rare;
  shapes = rare_shapes edge (row_of grid rare.mark.line.step) y rare (rare_title lines rare);
}

-- rare lines from the k-th on, the words of the first of all of which stand so far down
abbrev pub rare_rows_from : ℕ → Grid → List (List ℕ) → ℕ → ℕ → List Rare → List Row
rare_rows_from edge grid lines first k [] = []
rare_rows_from edge grid lines first k (rare ∷ more) =
    rare_row edge grid lines (label_y first k) rare
    ∷ rare_rows_from edge grid lines first (k + 1) more

-- words behind so many rare lines
abbrev pub note_at : ℕ → ℕ → List ℕ → Shape
note_at edge k words = Words Faint Start (point (edge + 36) (label_y 96 k)) words

-- that there are so many more
abbrev pub more_words : ℕ → List ℕ
more_words more = codes "and " ++ decimal more ++ codes " more"

-- what is said behind the rare lines: that there are more than there is room for, or none
abbrev pub notes_of : ℕ → ℕ → ℕ → List Shape
notes_of edge room rare =
    if rare == 0 then note_at edge 0 (codes "no refused, none, dead, cut, down, notified") ∷ []
    else if nat_le rare room then []
    else note_at edge room (more_words (rare - room)) ∷ []
