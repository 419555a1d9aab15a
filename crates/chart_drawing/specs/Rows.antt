-- The rows of a drawing, and the words before and beside them.
use Rattle.std.specs.Prelude.{ℕ, ◌+◌, ◌-◌, ◌/◌, ◌==◌, nat_le, Bool, if◌then◌else◌}
use Rattle.std.specs.Prelude.{List, [], ◌∷◌, ◌++◌, length, take, Option, Some, None}
use Rattle.std.specs.Prelude.{slice_get, codes, decimal, is_some, ◌||◌}
use Rattle.journal.specs.declared.head.SentTo.{SentTo}
use Rattle.journal.specs.declared.head.SentTo.TheVariants.{Dead}
use Rattle.linx_base.specs.declared.frame.Verdict.{Verdict}
use Rattle.linx_base.specs.declared.frame.Verdict.TheVariants.{Deliver, Lose, Repeat, Swap}
use Rattle.svg_text.specs.declared.class.Class.{Class}
use Rattle.svg_text.specs.declared.class.Class.TheVariants.{Hit, Label, Faint, Strong, WrongLabel}
use Rattle.svg_text.specs.declared.class.Class.TheVariants.{Line, Effect}
use Rattle.svg_text.specs.declared.picture.Row.{Row}
use Rattle.svg_text.specs.declared.shape.Anchor.{Anchor}
use Rattle.svg_text.specs.declared.shape.Anchor.TheVariants.{Start, Middle, End}
use Rattle.svg_text.specs.declared.shape.Point.{Point}
use Rattle.svg_text.specs.declared.shape.Shape.{Shape}
use Rattle.svg_text.specs.declared.shape.Shape.TheVariants.{Box, Words}
use Rattle.chart.specs.declared.mark.MarkKind.{MarkKind}
use Rattle.chart.specs.declared.mark.MarkKind.TheVariants as kinds
use Rattle.chart_drawing.specs.declared.setting.Setting.{Setting}
use Rattle.chart_drawing.specs.declared.spot.Spot.{Spot}
use Rattle.chart_drawing.specs.declared.view.View.{View}
use Rattle.chart.specs.declared.column.Column.{Column}
use Rattle.chart.specs.declared.column.Column.TheVariants.{Life}
use Rattle.chart_drawing.specs.Folds.{run_of, is_run, fold_shapes, fold_words}
use Rattle.chart_drawing.specs.Labels.{label_of}
use Rattle.chart_drawing.specs.Layout.{gap, width_of}
use Rattle.chart_drawing.specs.LifeMarks.{ring, level, upright, send_shapes, take_shape}
use Rattle.chart_drawing.specs.LifeMarks.{none_shapes, diamond, square, struck, flat, ended, cross}
use Rattle.chart_drawing.specs.LifeMarks.{down_shape, met_shapes, gone_shapes}
use Rattle.chart_drawing.specs.LaneMarks.{packet_shapes, tick_shape}
use Rattle.chart_drawing.specs.Spots.{point, row_top, in_cell, in_lane}

-- HOW A MARK LOOKS, by what it is of
unfoldable pub mark_shapes : Spot → MarkKind → List Shape
mark_shapes spot kinds.Open = ring spot 32 3 ∷ []
mark_shapes spot kinds.Close = level spot 26 38 ∷ []
mark_shapes spot (kinds.Send answer) = send_shapes spot answer
mark_shapes spot kinds.Take = take_shape spot ∷ []
mark_shapes spot kinds.TakeNone = none_shapes spot
mark_shapes spot kinds.Waits = level spot 27 37 ∷ []
mark_shapes spot kinds.Hunt = diamond spot ∷ []
mark_shapes spot kinds.Attach = square spot ∷ []
mark_shapes spot (kinds.Detach answer) = struck spot ∷ []
mark_shapes spot (kinds.Cut link) = flat spot ∷ []
mark_shapes spot (kinds.Mend link) = flat spot ∷ []
mark_shapes spot kinds.Settle = flat spot ∷ []
mark_shapes spot (kinds.Restart node) = flat spot ∷ []
mark_shapes spot (kinds.Packet verdict) = packet_shapes spot verdict
mark_shapes spot kinds.Tick = tick_shape spot ∷ []
mark_shapes spot kinds.Refused = ring spot 32 5 ∷ cross spot 28 ∷ []
mark_shapes spot kinds.Ended = ended spot ∷ []
mark_shapes spot kinds.Opened = level spot 25 39 ∷ []
mark_shapes spot kinds.Closed = level spot 25 39 ∷ []
mark_shapes spot kinds.Arrived = upright spot ∷ []
mark_shapes spot kinds.Found = upright spot ∷ []
mark_shapes spot kinds.Notified = upright spot ∷ []
mark_shapes spot kinds.Met = met_shapes spot
mark_shapes spot kinds.Gone = gone_shapes spot
mark_shapes spot kinds.Up = level spot 10 22 ∷ []
mark_shapes spot kinds.Down = down_shape spot ∷ []

-- the words of a line, no words where there are none
abbrev pub words_if : Option (List ℕ) → List ℕ
words_if None = []
words_if (Some words) = words

-- the words of a mark's line, by the mark's place
abbrev pub words_at : List (List ℕ) → ℕ → List ℕ
words_at all place = words_if (slice_get all place)

-- words cut to a length, with two dots where some are left out
abbrev pub cut : ℕ → List ℕ → List ℕ
cut most words = if nat_le (length words) most then words else take (most - 2) words ++ codes ".."

-- THE WORDS OF A ROW of these marks, of which this is the first: those of its line, or of a row of
-- several marks what they are
abbrev pub row_words : List (List ℕ) → Spot → List Spot → List ℕ
row_words lines spot run = if is_run run then fold_words run else words_at lines spot.place

-- the title of a row: the position of its step, and its words
abbrev pub row_title : List (List ℕ) → Spot → List Spot → List ℕ
row_title lines spot run =
    decimal spot.mark.line.step ++ codes " " ++ row_words lines spot run

-- what lights under the pointer: the whole row
abbrev pub hit_shape : Setting → Spot → Shape
hit_shape setting spot =
    Box Hit (record {
      corner = point 0 (row_top spot.row);
      width = width_of setting;
      height = 18;
    })

-- what a row of these marks shows
abbrev pub run_shapes : Setting → Spot → List Spot → List Shape
run_shapes setting spot run =
    if is_run run then fold_shapes setting spot.row run else mark_shapes spot spot.mark.kind

-- THE ROW OF THESE MARKS: the place of its first line, its title, and its shapes
abbrev pub row_of : Setting → List (List ℕ) → Spot → List Spot → Row
row_of setting lines spot run = record {
  step = spot.mark.line.step;
  effect = spot.mark.line.place;
  title = row_title lines spot run;
  shapes = hit_shape setting spot ∷ run_shapes setting spot run;
}

-- THE ROWS OF A DRAWING: each begins at the spot of a mark that shares no row of one before
abbrev pub rows_of : Setting → List (List ℕ) → List Spot → List Row
rows_of setting lines [] = []
rows_of setting lines (s ∷ more) =
    (if s.folded then [] else row_of setting lines s (run_of s.row (s ∷ more)) ∷ [])
    ++ rows_of setting lines more

-- where the label of a mark on a line or a rail stands: to the right, but of a right rail to the left
abbrev pub side_point : Spot → ℕ → Point
side_point spot right = in_cell spot (if spot.turned then 6 else right) 13

-- which part of a label stands at its point: the end where its column is turned, else the start
abbrev pub anchor_of : Bool → Anchor
anchor_of turned = if turned then End else Start

-- a label of a lane, so far along it, begins or ends there
abbrev pub lane_words : Spot → ℕ → Class → List ℕ → Shape
lane_words spot along class words =
    Words class (anchor_of spot.turned) (in_lane spot along 13) words

-- how the label of a send looks
abbrev pub send_class : SentTo → Class
send_class Dead = WrongLabel
send_class _ = Label

-- how a label looks: bold where something goes wrong or begins, faint where it says little
abbrev pub label_class : MarkKind → Class
label_class (kinds.Send answer) = send_class answer
label_class kinds.TakeNone = WrongLabel
label_class (kinds.Cut link) = WrongLabel
label_class (kinds.Restart node) = WrongLabel
label_class kinds.Refused = WrongLabel
label_class kinds.Down = WrongLabel
label_class kinds.Opened = Strong
label_class kinds.Up = Strong
label_class kinds.Open = Faint
label_class kinds.Close = Faint
label_class kinds.Waits = Faint
label_class kinds.Ended = Faint
label_class _ = Label

-- the label of a packet
abbrev pub packet_label : Spot → Verdict → List ℕ → Shape
packet_label spot Deliver words = lane_words spot 88 Label words
packet_label spot Lose words = lane_words spot 88 WrongLabel words
packet_label spot Repeat words = Words Label Middle (in_lane spot 78 13) words
packet_label spot (Swap place) words = lane_words spot 84 Label words

-- the label of a mark: in a lane inside it, at a rail beside it, at a line 30 to its right
unfoldable pub label_shape : Spot → MarkKind → List ℕ → Shape
label_shape spot (kinds.Packet verdict) words = packet_label spot verdict words
label_shape spot kinds.Tick words = lane_words spot 40 Faint words
label_shape spot kinds.Up words =
    Words (label_class kinds.Up) (anchor_of spot.turned) (side_point spot 26) words
label_shape spot kinds.Down words =
    Words (label_class kinds.Down) (anchor_of spot.turned) (side_point spot 26) words
label_shape spot kinds.Met words =
    Words (label_class kinds.Met) (anchor_of spot.turned) (side_point spot 26) words
label_shape spot kinds.Gone words =
    Words (label_class kinds.Gone) (anchor_of spot.turned) (side_point spot 26) words
label_shape spot kind words = Words (label_class kind) Start (in_cell spot 62 13) words

-- how many characters of a label there is room for beside a column
abbrev pub label_room : Setting → Column → ℕ
label_room setting (Life actor) = (gap setting - 46) / 7
label_room setting column = 13

-- a label, where it has words
abbrev pub label_if : Setting → Spot → List ℕ → List Shape
label_if setting spot words =
    if length words == 0 then []
    else label_shape spot spot.mark.kind (cut (label_room setting spot.mark.column) words) ∷ []

-- the label of a mark: words of its line
abbrev pub label_shapes : Setting → List (List ℕ) → Spot → List Shape
label_shapes setting lines spot =
    label_if setting spot (label_of spot.mark.kind (words_at lines spot.place))

-- the label of a row of these marks: that of its mark, where it has one alone
abbrev pub run_label : Setting → List (List ℕ) → Spot → List Spot → List Shape
run_label setting lines spot run = if is_run run then [] else label_shapes setting lines spot

-- THE LABELS OF ROWS
abbrev pub labels_of : Setting → List (List ℕ) → List Spot → List Shape
labels_of setting lines [] = []
labels_of setting lines (s ∷ more) =
    (if s.folded then [] else run_label setting lines s (run_of s.row (s ∷ more)))
    ++ labels_of setting lines more

-- the words of a row, cut to 42 characters
abbrev pub line_words : List (List ℕ) → Spot → List Spot → List ℕ
line_words lines spot run = cut 42 (row_words lines spot run)

-- the position of a step stands before its line, and of some makers' rows before each
abbrev pub is_numbered : View → Spot → Bool
is_numbered view spot = spot.mark.line.place == 0 || is_some view.of

-- the position of a step, before a row
abbrev pub position_shapes : View → Spot → List Shape
position_shapes view spot =
    if is_numbered view spot
    then Words Line End (point 48 (row_top spot.row + 13)) (decimal spot.mark.line.step) ∷ []
    else []

-- how a line looks, by its place among those of its step
abbrev pub line_class : ℕ → Class
line_class place = if place == 0 then Line else Effect

-- the words of a row at the left, unless lines are left out, and before them a position
abbrev pub line_shapes : View → List (List ℕ) → Spot → List Spot → List Shape
line_shapes view lines spot run =
    position_shapes view spot
    ++ (if view.plain then []
    else Words (line_class spot.mark.line.place) Start (point 60 (row_top spot.row + 13))
    (line_words lines spot run) ∷ [])

-- THE LINES OF ROWS
abbrev pub lines_of : View → List (List ℕ) → List Spot → List Shape
lines_of view lines [] = []
lines_of view lines (s ∷ more) =
    (if s.folded then [] else line_shapes view lines s (run_of s.row (s ∷ more)))
    ++ lines_of view lines more
